-- Groups, key by key.
use Rattle.std.proofs.Common.{◌≡◌, ℕ, ◌<◌, ◌≤◌, ◌^◌, Bool, true, false, cond, List, [], ◌∷◌, ◌++◌, Some, length, refl, ap, ◌∙◌, subst, arith}
use Rattle.std.specs.List.{filter, find, list_all}
use Rattle.std.proofs.lemmas.Bool.{both_ways, and_parts, and_from, false_from_ne_true, ltb-true, lt-ltb, or_left, or_right}
use Rattle.std.proofs.lemmas.Option.{none-some, same_Some}
use Rattle.std.proofs.lemmas.List.Folds.{list_all-append}
use Rattle.hera_sets.specs.Rows.{Row, is_same, holds}
use Rattle.hera_sets.proofs.Order.{same_itself}
use Rattle.hera_meaning.specs.declared.schemas.Attr.{Attr}
use Rattle.hera_meaning.specs.Relations.{at_places}
use Rattle.hera_meaning.specs.Aggregates.{is_few, rows_of_key}
use Rattle.rel_algebra.specs.Fronts.{rows_behind}
use Rattle.hera_aggregate.specs.declared.ends.AggEnd.{AggEnd}
use Rattle.hera_aggregate.specs.declared.ends.AggEnd.TheVariants.{Overflow, EmptyMin, Memory}
use Rattle.hera_aggregate.specs.Groups.{IsGroupEnd}

length-filter-le : (p : Row → Bool) (rows : List Row) → length (filter p rows) ≤ length rows
length-filter-le p [] = omega arith
length-filter-le p (x ∷ rows) = elim (p x) as (λ v. length (cond v (x ∷ filter p rows) (filter p rows)) ≤ length (x ∷ rows)) [ true ↦ omega (arith, length-filter-le p rows) | false ↦ omega (arith, length-filter-le p rows) ]

length-behind : (skip : ℕ) (rows : List Row) → length (rows_behind skip rows) ≡ length rows
length-behind skip [] = refl
length-behind skip (x ∷ rows) = omega (arith, length-behind skip rows)

-- the rows of a key are as few as all
pub few_of_key : (schema : List Attr) (by : List ℕ) (rows : List Row) (k : Row) (skip : ℕ) (ts : List Row) → is_few rows ≡ true → rows_behind skip ts ≡ rows_of_key schema by k rows → is_few ts ≡ true
few_of_key schema by rows k skip ts few e =
    let all : length rows < 2 ^ 63 = ltb-true (length rows) (2 ^ 63) few in
    lt-ltb (length ts) (2 ^ 63) (omega (arith, all, length-behind skip ts, ap length e, length-filter-le (λ x. is_same (at_places schema by x) k) rows))

-- what all pass, the one found passes
pub passes_found : (p q : Row → Bool) (xs : List Row) (r : Row) → list_all p xs ≡ true → find q xs ≡ Some r → p r ≡ true
passes_found p q [] r all h = absurd (none-some r h)
passes_found p q (x ∷ xs) r all h =
    elim (q x) as (λ v. cond v (Some x) (find q xs) ≡ Some r → p r ≡ true) [
      | true ↦ λ g. subst (λ z. p z ≡ true) (same_Some x r g) (and_parts (p x) (list_all p xs) all).0
      | false ↦ λ g. passes_found p q xs r (and_parts (p x) (list_all p xs) all).1 g
    ] h

pub fails_found : (p q : Row → Bool) (xs : List Row) (r : Row) → p r ≡ false → find q xs ≡ Some r → list_all p xs ≡ false
fails_found p q xs r otherwise h = false_from_ne_true (list_all p xs) (λ all. both_ways _ otherwise (passes_found p q xs r all h))

pub passes_more : (p : Row → Bool) (xs : List Row) (r : Row) → list_all p xs ≡ true → p r ≡ true → list_all p (xs ++ r ∷ []) ≡ true
passes_more p xs r all h = list_all-append p xs (r ∷ []) ∙ and_from _ _ all (and_from _ _ h refl)

-- ---- key by key

pub found_held : (q : Row → Bool) (xs : List Row) (r : Row) → find q xs ≡ Some r → holds xs r ≡ true
found_held q [] r h = absurd (none-some r h)
found_held q (x ∷ xs) r h =
    elim (q x) as (λ v. cond v (Some x) (find q xs) ≡ Some r → holds (x ∷ xs) r ≡ true) [
      | true ↦ λ g. or_left _ _ (ap (is_same r) (same_Some x r g) ∙ same_itself r)
      | false ↦ λ g. or_right _ _ (found_held q xs r g)
    ] h

-- a group is refused where the aggregates of one key are
pub refused_at : (fits all : Bool) (end : AggEnd) → (fits ≡ false → all ≡ false) → IsGroupEnd fits end → IsGroupEnd all end
refused_at fits all Overflow h e = h e
refused_at fits all EmptyMin h e = e
refused_at fits all Memory h e = tt
