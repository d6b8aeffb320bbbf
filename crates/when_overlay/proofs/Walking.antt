-- A walk from what is looked for on.
use Rattle.std.proofs.Common.{◌≡◌, ◌<◌, Bool, true, false, cond, not, List, [], ◌∷◌, length, None, Some, refl, sym, ap, ◌∙◌, arith}
use Rattle.std.specs.List.{filter, find}
use Rattle.std.specs.Option.{option_copied}
use Rattle.std.proofs.lemmas.Bool.{both_ways}
use Rattle.hera_sets.specs.Rows.{Row, is_below, is_past, IsAscending}
use Rattle.hera_sets.proofs.Order.{below_trans}
use Rattle.hera_sets.proofs.Lists.{ascending_filter, filter_past_step, filter_none_found, find_passes, past_trans}
use Rattle.when_overlay.specs.declared.soughts.Sought.{Sought}
use Rattle.when_overlay.specs.declared.soughts.Sought.TheVariants.{Past, From}
use Rattle.when_overlay.specs.Seeking.{passes}
use Rattle.when_overlay.proofs.Meeting.{find_first}

filter_within : (t p : Row → Bool) (xs : List Row) → ((q : Row) → t q ≡ true → p q ≡ true) → filter t (filter p xs) ≡ filter t xs
filter_within t p [] h = refl
filter_within t p (x ∷ xs) h =
    elim (p x) as (λ v. p x ≡ v → filter t (cond v (x ∷ filter p xs) (filter p xs)) ≡ filter t (x ∷ xs)) [
      | true ↦ λ e. ap (λ (ys : List Row). cond (t x) (x ∷ ys) ys) (filter_within t p xs h)
      | false ↦ λ e. elim (t x) as (λ w. t x ≡ w → filter t (filter p xs) ≡ cond w (x ∷ filter t xs) (filter t xs)) [
        | true ↦ λ g. absurd (both_ways _ e (h x g))
        | false ↦ λ g. filter_within t p xs h
      ] refl
    ] refl

all_of : (xs : List Row) → filter (is_past None) xs ≡ xs
all_of [] = refl
all_of (x ∷ xs) = ap (λ ys. x ∷ ys) (all_of xs)

not_true : (b : Bool) → not b ≡ true → b ≡ false
not_true true h = sym h
not_true false h = refl

-- what is above a row that passes, passes
rises : (s : Sought) (r q : Row) → passes s r ≡ true → is_below r q ≡ true → passes s q ≡ true
rises (Past b) r q h g = past_trans (option_copied b) r q h g
rises (From b) r q h g =
    elim (is_below q b.now) as (λ v. is_below q b.now ≡ v → not v ≡ true) [
      | true ↦ λ e. absurd (both_ways _ (not_true (is_below r b.now) h) (below_trans r q b.now g e))
      | false ↦ λ e. refl
    ] refl

-- behind the first one that passes are those past it
pub step_on : (s : Sought) (xs : List Row) (r : Row) → IsAscending xs → find (passes s) xs ≡ Some r → filter (passes s) xs ≡ r ∷ filter (is_past (Some r)) xs
step_on s xs r up found =
    sym (all_of (filter (passes s) xs))
    ∙ filter_past_step None (filter (passes s) xs) r (ascending_filter (passes s) xs up) (sym (find_first (passes s) xs) ∙ found)
    ∙ ap (λ (ys : List Row). r ∷ ys) (filter_within (is_below r) (passes s) xs (λ q g. rises s r q (find_passes (passes s) xs r found) g))

pub walk_on : (s : Sought) (xs : List Row) (r : Row) → IsAscending xs → find (passes s) xs ≡ Some r → length (filter (is_past (Some r)) xs) < length (filter (passes s) xs)
walk_on s xs r up found = let e = ap (λ (ys : List Row). length ys) (step_on s xs r up found) in omega (arith, e)

pub passed_over : (t : Row → Bool) (s : Sought) (xs : List Row) (r : Row) → IsAscending xs → find (passes s) xs ≡ Some r → t r ≡ false → find t (filter (is_past (Some r)) xs) ≡ find t (filter (passes s) xs)
passed_over t s xs r up h e = sym (ap (find t) (step_on s xs r up h) ∙ rw e refl)

pub found_here : (t : Row → Bool) (s : Sought) (xs : List Row) (r : Row) → IsAscending xs → find (passes s) xs ≡ Some r → t r ≡ true → Some r ≡ find t (filter (passes s) xs)
found_here t s xs r up h e = sym (ap (find t) (step_on s xs r up h) ∙ rw e refl)

pub none_here : (t : Row → Bool) (s : Sought) (xs : List Row) → find (passes s) xs ≡ None → None ≡ find t (filter (passes s) xs)
none_here t s xs h = sym (ap (find t) (filter_none_found (passes s) xs h))
