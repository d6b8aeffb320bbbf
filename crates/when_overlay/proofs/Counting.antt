-- How many rows there are after deltas, from how many there were.
use Rattle.std.proofs.Common.{◌≡◌, ℕ, suc, ◌+◌, ◌<◌, ◌≤◌, Bool, true, false, cond, not, ◌&&◌, List, [], ◌∷◌, length, Option, None, Some, refl, sym, ap, subst, ◌∙◌, arith}
use mir.Val.{bool_byte}
use Rattle.std.specs.List.{filter}
use Rattle.std.specs.Option.{MatchOption}
use Rattle.std.proofs.lemmas.Bool.{false≢true}
use Rattle.hera_sets.specs.Rows.{Row, holds, normal, is_past, IsAscending}
use Rattle.hera_sets.specs.Sets.{is_apart}
use Rattle.hera_sets.proofs.Lists.{ascending_filter, filter_past_none, filter_past_step, filter_none_found, walk_falls}
use Rattle.hera_sets.proofs.Members.{same_rows, ascending_normal, holds-filter, holds-normal}
use Rattle.hera_meaning.specs.declared.scalars.Sign.{Sign}
use Rattle.hera_meaning.specs.declared.scalars.Sign.TheVariants.{Plus, Minus}
use Rattle.hera_meaning.specs.Deltas.{Delta}
use Rattle.when_overlay.specs.Changed.{rows_after}
use Rattle.when_overlay.specs.Seeking.{sign_over, stands, named, next_of}
use Rattle.when_overlay.specs.Counting.{is_change, changes}
use Rattle.when_overlay.proofs.Signing.{holds-after, ascending_after}
use Rattle.when_overlay.proofs.Meeting.{over_named, within_and}

-- ---- rows kept, put in and taken out

pub parts : (t : Row → Bool) (xs : List Row) → length (filter t xs) + length (filter (λ x. not (t x)) xs) ≡ length xs
parts t [] = omega arith
parts t (x ∷ xs) =
    let rest = parts t xs in
    elim (t x) as (λ b. length (cond b (x ∷ filter t xs) (filter t xs)) + length (cond (not b) (x ∷ filter (λ y. not (t y)) xs) (filter (λ y. not (t y)) xs)) ≡ suc (length xs)) [
      | true ↦ omega (arith, rest)
      | false ↦ omega (arith, rest)
    ]

and_swap : (a b : Bool) → (a && b) ≡ (b && a)
and_swap true true = refl
and_swap true false = refl
and_swap false true = refl
and_swap false false = refl

kept : (xs ys : List Row) → IsAscending xs → IsAscending ys → filter (holds ys) xs ≡ filter (holds xs) ys
kept xs ys up vp =
    same_rows (filter (holds ys) xs) (filter (holds xs) ys) (ascending_filter (holds ys) xs up) (ascending_filter (holds xs) ys vp)
    (λ q. holds-filter (holds ys) xs q ∙ and_swap (holds ys q) (holds xs q) ∙ sym (holds-filter (holds xs) ys q))

pub record Balance (before after : List Row) : Type 0 where
  pub sum : length after + length (changes Minus before after) ≡ length before + length (changes Plus before after)
  pub taken : length (changes Minus before after) ≤ length before
  pub put : length (changes Plus before after) ≤ length after

pub balance : (before after : List Row) → IsAscending before → IsAscending after → Balance before after
balance before after up vp =
    let old = parts (holds after) before in
    let new = parts (holds before) after in
    let same = ap (λ xs. length xs) (kept before after up vp) in
    record { sum = omega (arith, old, new, same); taken = omega (arith, old); put = omega (arith, new) }

pub balance_after : (r : ℕ) (rows : List Row) (ds : List Delta) → IsAscending rows → Balance rows (rows_after r rows ds)
balance_after r rows ds up = balance rows (rows_after r rows ds) up (ascending_after r rows ds up)

-- ---- a row that was changed is named

changed_named : (s : Sign) (o : Option Sign) (h p : Bool) → (o ≡ Some s → p ≡ true) → is_change s h (stands o h) ≡ true → p ≡ true
changed_named Plus None true p g e = absurd (false≢true e)
changed_named Plus None false p g e = absurd (false≢true e)
changed_named Plus (Some Plus) h p g e = g refl
changed_named Plus (Some Minus) true p g e = absurd (false≢true e)
changed_named Plus (Some Minus) false p g e = absurd (false≢true e)
changed_named Minus None true p g e = absurd (false≢true e)
changed_named Minus None false p g e = absurd (false≢true e)
changed_named Minus (Some Plus) true p g e = absurd (false≢true e)
changed_named Minus (Some Plus) false p g e = absurd (false≢true e)
changed_named Minus (Some Minus) h p g e = g refl

-- whether the row at hand was changed
abbrev pub changes_row : Sign → List Row → List Row → Row → Bool
changes_row s before after q = is_change s (holds before q) (holds after q)

pub holds-changes : (s : Sign) (before after : List Row) (q : Row) → holds (changes s before after) q ≡ changes_row s before after q
holds-changes Plus before after q = holds-filter (is_apart before) after q
holds-changes Minus before after q = holds-filter (is_apart after) before q ∙ and_swap (not (holds after q)) (holds before q)

pub ascending_changes : (s : Sign) (before after : List Row) → IsAscending before → IsAscending after → IsAscending (changes s before after)
ascending_changes Plus before after up vp = ascending_filter (is_apart before) after vp
ascending_changes Minus before after up vp = ascending_filter (is_apart after) before up

row_named : (s : Sign) (r : ℕ) (rows : List Row) (ds : List Delta) (q : Row) → changes_row s rows (rows_after r rows ds) q ≡ true → holds (named r s ds) q ≡ true
row_named s r rows ds q e =
    changed_named s (sign_over r ds q) (holds rows q) (holds (named r s ds) q) (over_named r s ds q) (ap (is_change s (holds rows q)) (sym (holds-after r rows ds q)) ∙ e)

changes_are_named : (s : Sign) (r : ℕ) (rows : List Row) (ds : List Delta) → IsAscending rows →
    filter (changes_row s rows (rows_after r rows ds)) (normal (named r s ds)) ≡ changes s rows (rows_after r rows ds)
changes_are_named s r rows ds up =
    let t : Row → Bool = changes_row s rows (rows_after r rows ds) in
    same_rows (filter t (normal (named r s ds))) (changes s rows (rows_after r rows ds)) (ascending_filter t (normal (named r s ds)) (ascending_normal (named r s ds))) (ascending_changes s rows (rows_after r rows ds) up (ascending_after r rows ds up))
    (λ q. holds-filter t (normal (named r s ds)) q ∙ ap (λ b. t q && b) (holds-normal (named r s ds) q)
    ∙ sym (within_and (t q) (holds (named r s ds) q) (row_named s r rows ds q))
    ∙ sym (holds-changes s rows (rows_after r rows ds) q))

-- ---- the walk over the rows named

-- how many of the rows past the bound were changed
abbrev pub changes_past : Sign → ℕ → List Row → List Delta → Option Row → ℕ
changes_past s r rows ds b = length (filter (changes_row s rows (rows_after r rows ds)) (filter (is_past b) (normal (named r s ds))))

-- how many of the rows that are walked over lie past the bound
abbrev pub named_past : Sign → ℕ → List Delta → Option Row → ℕ
named_past s r ds b = length (filter (is_past b) (normal (named r s ds)))

pub count_starts : (s : Sign) (r : ℕ) (rows : List Row) (ds : List Delta) → IsAscending rows → 0 + changes_past s r rows ds None ≡ length (changes s rows (rows_after r rows ds))
count_starts s r rows ds up =
    let all = ap (λ xs. length (filter (changes_row s rows (rows_after r rows ds)) xs)) (filter_past_none (normal (named r s ds))) in
    let same = ap (λ xs. length xs) (changes_are_named s r rows ds up) in
    omega (arith, all, same)

pub count_goes : (s : Sign) (r : ℕ) (rows : List Row) (ds : List Delta) (n all : ℕ) (b : Option Row) (q : Row) → Some q ≡ next_of b (named r s ds) → n + changes_past s r rows ds b ≡ all → (n + bool_byte (changes_row s rows (rows_after r rows ds) q)) + changes_past s r rows ds (Some q) ≡ all
count_goes s r rows ds n all b q h e =
    let t : Row → Bool = changes_row s rows (rows_after r rows ds) in
    let xs : List Row = normal (named r s ds) in
    by (t q) (filter t (filter (is_past (Some q)) xs)) (ap (λ ys. length (filter t ys)) (filter_past_step b xs q (ascending_normal (named r s ds)) (sym h)))
  where
    by : (v : Bool) (rest : List Row) → changes_past s r rows ds b ≡ length (cond v (q ∷ rest) rest) → (n + bool_byte v) + length rest ≡ all
    by true rest step = omega (arith, step, e)
    by false rest step = omega (arith, step, e)

pub walk_goes : (s : Sign) (r : ℕ) (ds : List Delta) (b : Option Row) (q : Row) → Some q ≡ next_of b (named r s ds) → named_past s r ds (Some q) < named_past s r ds b
walk_goes s r ds b q h = walk_falls (normal (named r s ds)) b q (ascending_normal (named r s ds)) (sym h)

pub count_ends : (s : Sign) (r : ℕ) (rows : List Row) (ds : List Delta) (n all : ℕ) (b : Option Row) → None ≡ next_of b (named r s ds) → n + changes_past s r rows ds b ≡ all → n ≡ all
count_ends s r rows ds n all b h e =
    let none = ap (λ ys. length (filter (changes_row s rows (rows_after r rows ds)) ys)) (filter_none_found (is_past b) (normal (named r s ds)) (sym h)) in
    omega (arith, none, e)

-- what is none for its cause
pub none_for : {A : Type 0} → (o : Option A) (P : Type 0) (Q : A → Type 0) → o ≡ None → P → MatchOption o P Q
none_for o P Q e p = subst (λ x. MatchOption x P Q) (sym e) p
