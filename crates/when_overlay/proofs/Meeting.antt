-- The rows after deltas are those met that are there.
use Rattle.std.proofs.Common.{◌≡◌, ℕ, ◌+◌, ◌<◌, Bool, true, false, cond, not, ◌&&◌, ◌||◌, List, [], ◌∷◌, ◌++◌, take, get_or, length, Option, None, Some, refl, sym, ap, ◌∙◌, subst, append_assoc}
use Rattle.std.specs.List.{filter, find}
use Rattle.std.proofs.lemmas.Option.{none-some, same_Some}
use Rattle.std.proofs.lemmas.Bool.{both_ways, false≢true, or_left, or_right, or_parts}
use Rattle.hera_sets.specs.Rows.{Row, is_same, holds, normal, is_past, IsBelowAll, IsAscending}
use Rattle.hera_sets.proofs.Order.{same_true, same_itself}
use Rattle.hera_sets.specs.Sets.{least_of}
use Rattle.hera_sets.proofs.Lists.{none_held, ascending_filter}
use Rattle.hera_sets.proofs.Members.{same_rows, ascending_normal, normal_ascending, holds-filter, holds-normal, holds-append}
use Rattle.hera_sets.proofs.Next.{find-union, find-filter}
use Rattle.hera_meaning.specs.declared.scalars.Sign.{Sign}
use Rattle.hera_meaning.specs.declared.scalars.Sign.TheVariants.{Plus, Minus}
use Rattle.hera_meaning.specs.Deltas.{Atom, Delta, fail, atoms, IsDelta, is_fail, is_plus, key_of, keys_of, rows_named, plus_atoms, minus_atoms}
use Rattle.hera_meaning.proofs.Atoms.{rows_named-key}
use Rattle.delta_atoms.specs.Atoms.{atoms_in, part_of}
use Rattle.delta_atoms.proofs.Sides.{ascending_part_of}
use Rattle.when_overlay.specs.Changed.{changed, rows_after}
use Rattle.when_overlay.specs.Seeking.{sign_in, later, sign_over, stands, named_in, named, pluses, met, first_of}
use Rattle.when_overlay.proofs.Signing.{holds-changed, ascending_changed, holds-after, ascending_after, sign_over-append, take_more}

-- ---- the next of several lists

either : (xs ys : List Row) → normal (normal xs ++ normal ys) ≡ normal (xs ++ ys)
either xs ys =
    same_rows (normal (normal xs ++ normal ys)) (normal (xs ++ ys)) (ascending_normal (normal xs ++ normal ys)) (ascending_normal (xs ++ ys))
    (λ q. holds-normal (normal xs ++ normal ys) q ∙ holds-append (normal xs) (normal ys) q
    ∙ (λ i. holds-normal xs q i || holds-normal ys q i)
    ∙ sym (holds-normal (xs ++ ys) q ∙ holds-append xs ys q))

-- the first that passes is the first of those that pass
pub find_first : (p : Row → Bool) (xs : List Row) → find p xs ≡ find (is_past None) (filter p xs)
find_first p [] = refl
find_first p (x ∷ xs) =
    elim (p x) as (λ v. cond v (Some x) (find p xs) ≡ find (is_past None) (cond v (x ∷ filter p xs) (filter p xs))) [ true ↦ refl | false ↦ find_first p xs ]

and_either : (a b c : Bool) → ((a && b) || (a && c)) ≡ (a && (b || c))
and_either true b c = refl
and_either false b c = refl

filter_either : (p : Row → Bool) (xs ys : List Row) → IsAscending xs → IsAscending ys → normal (filter p xs ++ filter p ys) ≡ filter p (normal (xs ++ ys))
filter_either p xs ys up vp =
    same_rows (normal (filter p xs ++ filter p ys)) (filter p (normal (xs ++ ys))) (ascending_normal (filter p xs ++ filter p ys)) (ascending_filter p (normal (xs ++ ys)) (ascending_normal (xs ++ ys)))
    (λ q. holds-normal (filter p xs ++ filter p ys) q ∙ holds-append (filter p xs) (filter p ys) q
    ∙ (λ i. holds-filter p xs q i || holds-filter p ys q i)
    ∙ and_either (p q) (holds xs q) (holds ys q)
    ∙ ap (λ v. p q && v) (sym (holds-normal (xs ++ ys) q ∙ holds-append xs ys q))
    ∙ sym (holds-filter p (normal (xs ++ ys)) q))

find_either : (p : Row → Bool) (xs ys : List Row) → IsAscending xs → IsAscending ys → least_of (find p xs) (find p ys) ≡ find p (normal (xs ++ ys))
find_either p xs ys up vp =
    (λ i. least_of (find_first p xs i) (find_first p ys i))
    ∙ find-union None (filter p xs) (filter p ys) (ascending_filter p xs up) (ascending_filter p ys vp)
    ∙ ap (find (is_past None)) (filter_either p xs ys up vp)
    ∙ sym (find_first p (normal (xs ++ ys)))

pub next_append : (b : Row → Bool) (xs ys : List Row) → least_of (first_of b xs) (first_of b ys) ≡ first_of b (xs ++ ys)
next_append b xs ys =
    find_either b (normal xs) (normal ys) (ascending_normal xs) (ascending_normal ys) ∙ ap (find b) (either xs ys)

pub next_ascending : (b : Row → Bool) (xs : List Row) → IsAscending xs → find b xs ≡ first_of b xs
next_ascending b xs up = sym (ap (find b) (normal_ascending xs up))

pub named-append : (r : ℕ) (s : Sign) (ds es : List Delta) → named r s (ds ++ es) ≡ named r s ds ++ named r s es
named-append r s [] es = refl
named-append r s (d ∷ ds) es = ap (λ xs. named_in r s d ++ xs) (named-append r s ds es) ∙ sym (append_assoc (named_in r s d) (named r s ds) (named r s es))

pub named-push : (r : ℕ) (s : Sign) (ds : List Delta) (d : Delta) → named r s (ds ++ d ∷ []) ≡ named r s ds ++ named_in r s d
named-push r s ds d = named-append r s ds (d ∷ []) ∙ ap (λ xs. named r s ds ++ xs) (Rattle.std.proofs.lemmas.List.append-nil (named_in r s d))

-- the next of those named by the first deltas and by the others
pub next_named : (b : Row → Bool) (r : ℕ) (s : Sign) (ds es : List Delta) → least_of (first_of b (named r s ds)) (first_of b (named r s es)) ≡ first_of b (named r s (ds ++ es))
next_named b r s ds es = next_append b (named r s ds) (named r s es) ∙ ap (first_of b) (sym (named-append r s ds es))

-- the next of those met, from the next of the rows and of those put in
pub next_met : (b : Row → Bool) (r : ℕ) (rows : List Row) (ds : List Delta) → IsAscending rows →
    least_of (find b rows) (first_of b (pluses r ds)) ≡ find b (met r rows ds)
next_met b r rows ds up = (λ i. least_of (next_ascending b rows up i) (first_of b (pluses r ds))) ∙ next_append b rows (pluses r ds)

-- where no delta speaks, what is met is what was there
pub met_alone : (b : Row → Bool) (r : ℕ) (rows : List Row) (ds : List Delta) → IsAscending rows → ds ≡ [] → find b rows ≡ find b (met r rows ds)
met_alone b r rows ds up e =
    next_ascending b rows up ∙ ap (first_of b) (sym (Rattle.std.proofs.lemmas.List.append-nil rows)) ∙ ap (λ (xs : List Delta). find b (met r rows xs)) (sym e)

pub kept_alone : (r : ℕ) (ds : List Delta) (q : Row) → ds ≡ [] → true ≡ stands (sign_over r ds q) true
kept_alone r ds q e = ap (λ (xs : List Delta). stands (sign_over r xs q) true) (sym e)

-- ---- what is there was met

sign_named : (r : ℕ) (s : Sign) (d : Delta) (q : Row) → sign_in r d q ≡ Some s → holds (named_in r s d) q ≡ true
sign_named r s fail q e = absurd (none-some s e)
sign_named r Plus (atoms xs) q e =
    elim (holds (rows_named r (minus_atoms xs)) q) as (λ m. cond m (Some Minus) (cond (holds (rows_named r (plus_atoms xs)) q) (Some Plus) None) ≡ Some Plus → holds (rows_named r (plus_atoms xs)) q ≡ true) [
      | true ↦ λ g. cc
      | false ↦ λ g. elim (holds (rows_named r (plus_atoms xs)) q) as (λ p. cond p (Some Plus) None ≡ Some Plus → p ≡ true) [ true ↦ λ _. refl | false ↦ λ f. absurd (none-some Plus f) ] g
    ] e
sign_named r Minus (atoms xs) q e =
    elim (holds (rows_named r (minus_atoms xs)) q) as (λ m. cond m (Some Minus) (cond (holds (rows_named r (plus_atoms xs)) q) (Some Plus) None) ≡ Some Minus → m ≡ true) [
      | true ↦ λ g. refl
      | false ↦ λ g. elim (holds (rows_named r (plus_atoms xs)) q) as (λ p. cond p (Some Plus) None ≡ Some Minus → false ≡ true) [ true ↦ λ f. cc | false ↦ λ f. absurd (none-some Minus f) ] g
    ] e

later_named : (r : ℕ) (s : Sign) (ds : List Delta) (q : Row) (o u : Option Sign) → later o u ≡ Some s → (o ≡ Some s → holds (named r s ds) q ≡ true) → (p : List Row) → (u ≡ Some s → holds p q ≡ true) → (holds p q || holds (named r s ds) q) ≡ true
later_named r s ds q None u e h p g = or_left (holds p q) (holds (named r s ds) q) (g e)
later_named r s ds q (Some t) u e h p g = or_right (holds p q) (holds (named r s ds) q) (h e)

-- a row of which the deltas say something was named so
pub over_named : (r : ℕ) (s : Sign) (ds : List Delta) (q : Row) → sign_over r ds q ≡ Some s → holds (named r s ds) q ≡ true
over_named r s [] q e = absurd (none-some s e)
over_named r s (d ∷ ds) q e =
    holds-append (named_in r s d) (named r s ds) q
    ∙ later_named r s ds q (sign_over r ds q) (sign_in r d q) e (over_named r s ds q) (named_in r s d) (sign_named r s d q)

was_met : (o : Option Sign) (h p : Bool) → (o ≡ Some Plus → p ≡ true) → stands o h ≡ true → (h || p) ≡ true
was_met None true p g e = refl
was_met None false p g e = cc
was_met (Some Plus) h p g e = or_right h p (g refl)
was_met (Some Minus) h p g e = cc

pub after_met : (r : ℕ) (rows : List Row) (ds : List Delta) (q : Row) → holds (rows_after r rows ds) q ≡ true → holds (met r rows ds) q ≡ true
after_met r rows ds q e =
    holds-normal (rows ++ pluses r ds) q ∙ holds-append rows (pluses r ds) q
    ∙ was_met (sign_over r ds q) (holds rows q) (holds (pluses r ds) q) (over_named r Plus ds q) (sym (holds-after r rows ds q) ∙ e)

pub within_and : (a b : Bool) → (a ≡ true → b ≡ true) → a ≡ (a && b)
within_and true b h = sym (h refl)
within_and false b h = refl

after_is_filter : (r : ℕ) (rows : List Row) (ds : List Delta) → IsAscending rows → rows_after r rows ds ≡ filter (holds (rows_after r rows ds)) (met r rows ds)
after_is_filter r rows ds up =
    same_rows (rows_after r rows ds) (filter (holds (rows_after r rows ds)) (met r rows ds)) (ascending_after r rows ds up) (ascending_filter (holds (rows_after r rows ds)) (met r rows ds) (ascending_normal (rows ++ pluses r ds)))
    (λ q. within_and (holds (rows_after r rows ds) q) (holds (met r rows ds) q) (after_met r rows ds q) ∙ sym (holds-filter (holds (rows_after r rows ds)) (met r rows ds) q))

pub find-after : (b : Row → Bool) (r : ℕ) (rows : List Row) (ds : List Delta) → IsAscending rows →
    find (holds (rows_after r rows ds)) (filter b (met r rows ds)) ≡ find b (rows_after r rows ds)
find-after b r rows ds up = sym (ap (find b) (after_is_filter r rows ds up) ∙ find-filter b (holds (rows_after r rows ds)) (met r rows ds))

-- ---- what was met is there unless it was taken out

find_held : (b : Row → Bool) (xs : List Row) (q : Row) → find b xs ≡ Some q → holds xs q ≡ true
find_held b [] q e = absurd (none-some q e)
find_held b (x ∷ xs) q e =
    elim (b x) as (λ v. cond v (Some x) (find b xs) ≡ Some q → holds (x ∷ xs) q ≡ true) [
      | true ↦ λ g. or_left (is_same q x) (holds xs q) (subst (λ (y : Row). is_same q y ≡ true) (sym (same_Some x q g)) (same_itself q))
      | false ↦ λ g. or_right (is_same q x) (holds xs q) (find_held b xs q g)
    ] e

silent_plus : (r : ℕ) (d : Delta) (q : Row) → sign_in r d q ≡ None → holds (named_in r Plus d) q ≡ false
silent_plus r fail q e = refl
silent_plus r (atoms xs) q e =
    elim (holds (rows_named r (minus_atoms xs)) q) as (λ m. cond m (Some Minus) (cond (holds (rows_named r (plus_atoms xs)) q) (Some Plus) None) ≡ None → holds (rows_named r (plus_atoms xs)) q ≡ false) [
      | true ↦ λ g. absurd (none-some Minus (sym g))
      | false ↦ λ g. elim (holds (rows_named r (plus_atoms xs)) q) as (λ p. cond p (Some Plus) None ≡ None → p ≡ false) [ true ↦ λ f. absurd (none-some Plus (sym f)) | false ↦ λ _. refl ] g
    ] e

both_silent : (o u : Option Sign) → later o u ≡ None → (o ≡ None) × (u ≡ None)
both_silent None u e = (refl, e)
both_silent (Some s) u e = absurd (none-some s (sym e))

-- of a row that no delta puts in or takes out
silent : (r : ℕ) (ds : List Delta) (q : Row) → sign_over r ds q ≡ None → holds (pluses r ds) q ≡ false
silent r [] q e = refl
silent r (d ∷ ds) q e =
    let both = both_silent (sign_over r ds q) (sign_in r d q) e in
    holds-append (named_in r Plus d) (pluses r ds) q ∙ (λ i. silent_plus r d q both.1 i || silent r ds q both.0 i)

stands_met : (o : Option Sign) (h p : Bool) → (o ≡ None → p ≡ false) → (h || p) ≡ true → stands o h ≡ stands o true
stands_met None true p g e = refl
stands_met None false p g e = sym (g refl) ∙ e
stands_met (Some Plus) h p g e = refl
stands_met (Some Minus) h p g e = refl

pub kept_met : (b : Row → Bool) (r : ℕ) (rows : List Row) (ds : List Delta) (q : Row) (v : Bool) → find b (met r rows ds) ≡ Some q → v ≡ stands (sign_over r ds q) true → holds (rows_after r rows ds) q ≡ v
kept_met b r rows ds q v found e =
    let here : (holds rows q || holds (pluses r ds) q) ≡ true =
    sym (holds-normal (rows ++ pluses r ds) q ∙ holds-append rows (pluses r ds) q) ∙ find_held b (met r rows ds) q found in
    holds-after r rows ds q ∙ stands_met (sign_over r ds q) (holds rows q) (holds (pluses r ds) q) (silent r ds q) here ∙ sym e

-- what the last delta puts in, beside what was met before it
pub next_newest : (b : Row → Bool) (r : ℕ) (rows : List Row) (es ds : List Delta) (d : Delta) → ds ≡ es ++ d ∷ [] →
    least_of (find b (met r rows es)) (first_of b (named_in r Plus d)) ≡ find b (met r rows ds)
next_newest b r rows es ds d e =
    next_append b (rows ++ pluses r es) (named_in r Plus d)
    ∙ ap (first_of b) (append_assoc rows (pluses r es) (named_in r Plus d) ∙ ap (λ xs. rows ++ xs) (sym (named-push r Plus es d) ∙ ap (named r Plus) (sym e)))

-- what the last delta puts in, beside what those before it do
pub next_last : (b : Row → Bool) (r : ℕ) (es ds : List Delta) (d : Delta) → ds ≡ es ++ d ∷ [] →
    least_of (first_of b (named r Plus es)) (first_of b (named_in r Plus d)) ≡ first_of b (named r Plus ds)
next_last b r es ds d e =
    next_append b (named r Plus es) (named_in r Plus d)
    ∙ ap (first_of b) (sym (named-push r Plus es d) ∙ ap (named r Plus) (sym e))

-- a delta that is in order does not take out what it puts in
still : (t : Atom → Bool) (xs : List Atom) (k : Row) → holds (keys_of xs) k ≡ false → holds (keys_of (filter t xs)) k ≡ false
still t [] k h = refl
still t (a ∷ xs) k h =
    let parts = or_parts (is_same k (key_of a)) (holds (keys_of xs) k) h in
    elim (t a) as (λ v. holds (keys_of (cond v (a ∷ filter t xs) (filter t xs))) k ≡ false) [
      | true ↦ rw (parts.0, still t xs k parts.1) refl
      | false ↦ still t xs k parts.1
    ]

one_sign : (xs : List Atom) (k : Row) → IsAscending (keys_of xs) → holds (keys_of (plus_atoms xs)) k ≡ true → holds (keys_of (minus_atoms xs)) k ≡ false
one_sign [] k up h = refl
one_sign (a ∷ xs) k up h =
    elim (is_plus a.sign) as (λ v. holds (keys_of (cond v (a ∷ plus_atoms xs) (plus_atoms xs))) k ≡ true → holds (keys_of (cond (not v) (a ∷ minus_atoms xs) (minus_atoms xs))) k ≡ false) [
      | true ↦ λ g. elim (is_same k (key_of a)) as (λ w. is_same k (key_of a) ≡ w → (w || holds (keys_of (plus_atoms xs)) k) ≡ true → holds (keys_of (minus_atoms xs)) k ≡ false) [
        | true ↦ λ e _. still (λ b. not (is_plus b.sign)) xs k (others e)
        | false ↦ λ _ f. one_sign xs k up.1 f
      ] refl g
      | false ↦ λ g. elim (is_same k (key_of a)) as (λ w. is_same k (key_of a) ≡ w → (w || holds (keys_of (minus_atoms xs)) k) ≡ false) [
        | true ↦ λ e. absurd (both_ways _ (still (λ b. is_plus b.sign) xs k (others e)) g)
        | false ↦ λ _. one_sign xs k up.1 g
      ] refl
    ] h
  where
    others : is_same k (key_of a) ≡ true → holds (keys_of xs) k ≡ false
    others e = none_held k (keys_of xs) (subst (λ z. IsBelowAll z (keys_of xs)) (sym (same_true k (key_of a) e)) up.0)

-- a row that a delta puts in, found among those
found_named : (b : Row → Bool) (r : ℕ) (d : Delta) (o : Option Row) (q : Row) → o ≡ first_of b (named_in r Plus d) → o ≡ Some q → holds (named_in r Plus d) q ≡ true
found_named b r d o q h g = sym (holds-normal (named_in r Plus d) q) ∙ find_held b (normal (named_in r Plus d)) q (sym h ∙ g)

-- what a delta puts in it does not take out
pub apart_signs : (r : ℕ) (xs : List Atom) (q : Row) → IsDelta (atoms xs) → holds (rows_named r (plus_atoms xs)) q ≡ true → holds (rows_named r (minus_atoms xs)) q ≡ false
apart_signs r xs q up h = rows_named-key r (minus_atoms xs) q ∙ one_sign xs (r ∷ q) up (sym (rows_named-key r (plus_atoms xs) q) ∙ h)

put_in_here : (r : ℕ) (d : Delta) (q : Row) → IsDelta d → holds (named_in r Plus d) q ≡ true → sign_in r d q ≡ Some Plus
put_in_here r fail q up h = absurd (false≢true h)
put_in_here r (atoms xs) q up h = rw (apart_signs r xs q up h, h) refl

-- a row found among those that the last delta puts in is put in
pub newest_sign : (b : Row → Bool) (r : ℕ) (es ds : List Delta) (d : Delta) (o : Option Row) (q : Row) → ds ≡ es ++ d ∷ [] → IsDelta d → o ≡ first_of b (named_in r Plus d) → o ≡ Some q → sign_over r ds q ≡ Some Plus
newest_sign b r es ds d o q e up h g =
    ap (λ xs. sign_over r xs q) e ∙ sign_over-append r es (d ∷ []) q
    ∙ ap (λ (s : Option Sign). later s (sign_over r es q)) (put_in_here r d q up (found_named b r d o q h g))

-- what the last delta says decides, and else those before it
pub last_sign : (r : ℕ) (es ds : List Delta) (d : Delta) (q : Row) → ds ≡ es ++ d ∷ [] → sign_over r es q ≡ Some Plus → sign_over r ds q ≡ later (sign_in r d q) (Some Plus)
last_sign r es ds d q e h =
    ap (λ xs. sign_over r xs q) e ∙ sign_over-append r es (d ∷ []) q ∙ ap (later (sign_in r d q)) h

-- ---- one delta alone

unsaid : (r : ℕ) (d : Delta) (q : Row) → holds (named_in r Plus d) q ≡ false → stands (sign_in r d q) false ≡ false
unsaid r fail q e = refl
unsaid r (atoms xs) q e = rw e (out (holds (rows_named r (minus_atoms xs)) q))
  where
    out : (m : Bool) → stands (cond m (Some Minus) None) false ≡ false
    out true = refl
    out false = refl

held_alone : (r : ℕ) (d : Delta) (q : Row) → IsDelta d → holds (named_in r Plus d) q ≡ stands (sign_in r d q) false
held_alone r d q up =
    elim (holds (named_in r Plus d) q) as (λ p. holds (named_in r Plus d) q ≡ p → p ≡ stands (sign_in r d q) false) [
      | true ↦ λ e. sym (ap (λ o. stands o false) (put_in_here r d q up e))
      | false ↦ λ e. sym (unsaid r d q e)
    ] refl

ascending_named_in : (r : ℕ) (s : Sign) (d : Delta) → IsDelta d → IsAscending (named_in r s d)
ascending_named_in r s fail up = tt
ascending_named_in r s (atoms xs) up = ascending_part_of xs r s up

-- where nothing was, what a delta puts in is what is there
pub put_in_first : (r : ℕ) (d : Delta) → IsDelta d → named_in r Plus d ≡ changed r [] d
put_in_first r d up =
    same_rows (named_in r Plus d) (changed r [] d) (ascending_named_in r Plus d up) (ascending_changed r [] d tt)
    (λ q. held_alone r d q up ∙ sym (holds-changed r [] d q))

pub named_part : (r : ℕ) (s : Sign) (d : Delta) → is_fail d ≡ false → part_of (atoms_in d) r s ≡ named_in r s d
named_part r s fail h = cc
named_part r s (atoms xs) h = refl

-- ---- one delta further

pub named_more : (r : ℕ) (s : Sign) (ds : List Delta) (i : ℕ) (x : Delta) → i < length ds → x ≡ get_or ds i x → named r s (take (i + 1) ds) ≡ named r s (take i ds) ++ named_in r s x
named_more r s ds i x h e = ap (named r s) (take_more ds i x h e) ∙ named-push r s (take i ds) x
