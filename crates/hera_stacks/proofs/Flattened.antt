-- Forms are told apart by their numbers.
use Rattle.std.proofs.Common.{◌≡◌, ◌≤◌, ℕ, zero, suc, ◌+◌, ◌*◌, Bool, true, false, cond, not, ◌||◌, List, [], ◌∷◌, ◌++◌, drop, map, length, Some, refl, sym, ap, ◌∙◌, add-one, append-nil, arith}
use Rattle.std.specs.Prelude.{slice_get, is_some}
use Rattle.std.specs.List.{position_from}
use Rattle.hera_sets.specs.Rows.{is_same}
use Rattle.hera_meaning.specs.declared.schemas.Attr.{Attr}
use Rattle.hera_meaning.specs.Schemas.{place_named}
use Rattle.hera_meaning.specs.Relations.{has_name, lacking}
use Rattle.std.proofs.lemmas.Option.{none-some, same_Some}
use Rattle.hera_meaning.specs.declared.scalars.Kind.{Kind}
use Rattle.hera_meaning.specs.declared.scalars.Kind.TheVariants.{Int as int_kind, Bool as bool_kind, Text as text_kind}
use Rattle.hera_meaning.specs.Forms.{Form, of_scalar, of_tuple, of_table, of_delta, kinds_of, kind_at}
use Rattle.hera_typed.specs.Points.{Seen, known, no_rows}
use Rattle.hera_stacks.specs.declared.forms.Kinds.{Kinds}
use Rattle.hera_stacks.specs.declared.forms.FlatForm.{FlatForm}
use Rattle.hera_stacks.specs.declared.forms.FlatForm.TheVariants as flat
use Rattle.hera_stacks.specs.declared.forms.FlatSeen.{FlatSeen}
use Rattle.hera_stacks.specs.declared.forms.FlatSeen.TheVariants as flat_seens
use Rattle.hera_stacks.specs.Flat.{digit, numbered, flat_form, flat_seen}

-- ---- one kind after another

drop_suc : {A : Type 0} (xs : List A) (i : ℕ) (x : A) → slice_get xs i ≡ Some x → drop i xs ≡ x ∷ drop (suc i) xs
drop_suc [] i x h = absurd (none-some x h)
drop_suc (y ∷ xs) zero x h = ap (λ z. z ∷ xs) (same_Some y x h)
drop_suc (y ∷ xs) (suc i) x h = drop_suc xs i x h

pub drop_at : {A : Type 0} (xs : List A) (i : ℕ) (x : A) → slice_get xs i ≡ Some x → drop i xs ≡ x ∷ drop (i + 1) xs
drop_at xs i x h = drop_suc xs i x h ∙ ap (λ n. x ∷ drop n xs) (sym (add-one i))

pub numbered_on : {A : Type 0} (f : A → Kind) (xs : List A) (i : ℕ) (x : A) (n m : ℕ) → slice_get xs i ≡ Some x → m ≡ 4 * n + digit (f x) → numbered m (map f (drop (i + 1) xs)) ≡ numbered n (map f (drop i xs))
numbered_on f xs i x n m h e = ap (λ d. numbered d (map f (drop (i + 1) xs))) e ∙ sym (ap (λ ys. numbered n (map f ys)) (drop_at xs i x h))

pub drop_past : {A : Type 0} (xs : List A) (i : ℕ) → length xs ≤ i → drop i xs ≡ []
drop_past [] zero h = refl
drop_past [] (suc i) h = refl
drop_past (x ∷ xs) zero h = absurd (omega (arith, h))
drop_past (x ∷ xs) (suc i) h = drop_past xs i (omega (arith, h))

pub kinds_are : (x : Kinds) (n : ℕ) → x.digits ≡ n → x ≡ record { digits = n }
kinds_are x n e = (λ i. record { digits = e i })

pub numbered_append : (n : ℕ) (ks ls : List Kind) → numbered n (ks ++ ls) ≡ numbered (numbered n ks) ls
numbered_append n [] ls = refl
numbered_append n (k ∷ ks) ls = numbered_append (4 * n + digit k) ks ls

pub kind_within : (schema : List Attr) (i : ℕ) (a : Attr) → slice_get schema i ≡ Some a → a.kind ≡ kind_at schema i
kind_within [] i a h = absurd (none-some a h)
kind_within (x ∷ schema) zero a h = ap (λ (y : Attr). y.kind) (sym (same_Some x a h))
kind_within (x ∷ schema) (suc i) a h = kind_within schema i a h

pub kind_past : (schema : List Attr) (i : ℕ) → length schema ≤ i → int_kind ≡ kind_at schema i
kind_past [] i h = refl
kind_past (x ∷ schema) zero h = absurd (omega (arith, h))
kind_past (x ∷ schema) (suc i) h = kind_past schema i (omega (arith, h))

-- ---- kinds that the left schema lacks

-- the test by place is the test by name
named_from : (xs : List Attr) (name : List ℕ) (i : ℕ) → is_some (position_from (λ a. is_same name a.name) i xs) ≡ has_name xs name
named_from [] name i = refl
named_from (x ∷ xs) name i =
    elim (is_same name x.name) as (λ t. is_some (cond t (Some i) (position_from (λ a. is_same name a.name) (i + 1) xs)) ≡ t || has_name xs name) [
      | true ↦ refl
      | false ↦ named_from xs name (i + 1)
    ]

pub numbered_lacking : (left right : List Attr) (i : ℕ) (a : Attr) (n m : ℕ) → slice_get right i ≡ Some a → m ≡ cond (is_some (place_named a.name left)) n (4 * n + digit a.kind)
    → numbered m (kinds_of (lacking left (drop (i + 1) right))) ≡ numbered n (kinds_of (lacking left (drop i right)))
numbered_lacking left right i a n m at e =
    by (has_name left a.name) refl ∙ sym (ap (λ ys. numbered n (kinds_of (lacking left ys))) (drop_at right i a at))
  where
    own : m ≡ cond (has_name left a.name) n (4 * n + digit a.kind)
    own = e ∙ ap (λ b. cond b n (4 * n + digit a.kind)) (named_from left a.name 0)

    by : (v : Bool) → has_name left a.name ≡ v → numbered m (kinds_of (lacking left (drop (i + 1) right))) ≡ numbered n (kinds_of (lacking left (a ∷ drop (i + 1) right)))
    by true v =
        ap (λ d. numbered d (kinds_of (lacking left (drop (i + 1) right)))) (own ∙ ap (λ b. cond b n (4 * n + digit a.kind)) v)
        ∙ sym (ap (λ b. numbered n (kinds_of (cond (not b) (a ∷ lacking left (drop (i + 1) right)) (lacking left (drop (i + 1) right))))) v)
    by false v =
        ap (λ d. numbered d (kinds_of (lacking left (drop (i + 1) right)))) (own ∙ ap (λ b. cond b n (4 * n + digit a.kind)) v)
        ∙ sym (ap (λ b. numbered n (kinds_of (cond (not b) (a ∷ lacking left (drop (i + 1) right)) (lacking left (drop (i + 1) right))))) v)

-- ---- the numbers of lists of kinds

abbrev low : List Kind → ℕ
low [] = 0
low (k ∷ ks) = 4 * low ks + digit k

abbrev onto : List Kind → List Kind → List Kind
onto acc [] = acc
onto acc (k ∷ ks) = onto (k ∷ acc) ks

numbered_low : (acc ks : List Kind) → numbered (low acc) ks ≡ low (onto acc ks)
numbered_low acc [] = refl
numbered_low acc (k ∷ ks) = numbered_low (k ∷ acc) ks

onto_twice : (b acc ks : List Kind) → onto b (onto acc ks) ≡ onto (ks ++ b) acc
onto_twice b acc [] = refl
onto_twice b acc (k ∷ ks) = onto_twice b (k ∷ acc) ks

some_digit : (k : Kind) → (1 ≤ digit k) × (digit k ≤ 3)
some_digit int_kind = (omega arith, omega arith)
some_digit bool_kind = (omega arith, omega arith)
some_digit text_kind = (omega arith, omega arith)

abbrev kind_of_digit : ℕ → Kind
kind_of_digit zero = text_kind
kind_of_digit (suc zero) = int_kind
kind_of_digit (suc (suc zero)) = bool_kind
kind_of_digit (suc (suc (suc n))) = text_kind

digit_back : (k : Kind) → kind_of_digit (digit k) ≡ k
digit_back int_kind = refl
digit_back bool_kind = refl
digit_back text_kind = refl

low_same : (ks ls : List Kind) → low ks ≡ low ls → ks ≡ ls
low_same [] [] e = refl
low_same [] (l ∷ ls) e = let d = (some_digit l).0 in absurd (omega (arith, e, d))
low_same (k ∷ ks) [] e = let d = (some_digit k).0 in absurd (omega (arith, e, d))
low_same (k ∷ ks) (l ∷ ls) e =
    let d = some_digit k in
    let c = some_digit l in
    let d-low = d.0 in
    let d-high = d.1 in
    let c-low = c.0 in
    let c-high = c.1 in
    let same : digit k ≡ digit l = omega (arith, e, d-low, d-high, c-low, c-high) in
    let rest : low ks ≡ low ls = omega (arith, e, same) in
    let first : k ≡ l = sym (digit_back k) ∙ ap kind_of_digit same ∙ digit_back l in
    (λ i. first i ∷ low_same ks ls rest i)

back : (ks : List Kind) → onto [] (onto [] ks) ≡ ks
back ks = onto_twice [] [] ks ∙ append-nil ks

pub kinds_same : (ks ls : List Kind) → numbered 0 ks ≡ numbered 0 ls → ks ≡ ls
kinds_same ks ls e =
    let turned : onto [] ks ≡ onto [] ls = low_same (onto [] ks) (onto [] ls) (sym (numbered_low [] ks) ∙ e ∙ numbered_low [] ls) in
    sym (back ks) ∙ ap (onto []) turned ∙ back ls

-- ---- forms

abbrev tag : FlatForm → ℕ
tag (flat.Scalar k) = 0
tag (flat.Tuple ks) = 1
tag (flat.Table ks) = 2
tag flat.Delta = 3

abbrev kind_part : FlatForm → Kind
kind_part (flat.Scalar k) = k
kind_part _ = int_kind

abbrev digits_part : FlatForm → ℕ
digits_part (flat.Tuple ks) = ks.digits
digits_part (flat.Table ks) = ks.digits
digits_part _ = 0

pub form_same : (f g : Form) → flat_form f ≡ flat_form g → f ≡ g
form_same (of_scalar k) (of_scalar l) e = ap of_scalar (ap kind_part e)
form_same (of_scalar k) (of_tuple ls) e = absurd (omega (arith, ap tag e))
form_same (of_scalar k) (of_table ls) e = absurd (omega (arith, ap tag e))
form_same (of_scalar k) of_delta e = absurd (omega (arith, ap tag e))
form_same (of_tuple ks) (of_scalar l) e = absurd (omega (arith, ap tag e))
form_same (of_tuple ks) (of_tuple ls) e = ap of_tuple (kinds_same ks ls (ap digits_part e))
form_same (of_tuple ks) (of_table ls) e = absurd (omega (arith, ap tag e))
form_same (of_tuple ks) of_delta e = absurd (omega (arith, ap tag e))
form_same (of_table ks) (of_scalar l) e = absurd (omega (arith, ap tag e))
form_same (of_table ks) (of_tuple ls) e = absurd (omega (arith, ap tag e))
form_same (of_table ks) (of_table ls) e = ap of_table (kinds_same ks ls (ap digits_part e))
form_same (of_table ks) of_delta e = absurd (omega (arith, ap tag e))
form_same of_delta (of_scalar l) e = absurd (omega (arith, ap tag e))
form_same of_delta (of_tuple ls) e = absurd (omega (arith, ap tag e))
form_same of_delta (of_table ls) e = absurd (omega (arith, ap tag e))
form_same of_delta of_delta e = refl

abbrev seen_tag : FlatSeen → ℕ
seen_tag (flat_seens.Known f) = 0
seen_tag flat_seens.NoRows = 1

abbrev form_part : FlatSeen → FlatForm
form_part (flat_seens.Known f) = f
form_part flat_seens.NoRows = flat.Delta

pub seen_same : (s t : Seen) → flat_seen s ≡ flat_seen t → s ≡ t
seen_same (known f) (known g) e = ap known (form_same f g (ap form_part e))
seen_same (known f) no_rows e = absurd (omega (arith, ap seen_tag e))
seen_same no_rows (known g) e = absurd (omega (arith, ap seen_tag e))
seen_same no_rows no_rows e = refl
