-- The least and the greatest of rows: one row more, and what is found in the end.
use Rattle.std.proofs.Common.{◌≡◌, ℕ, cond, List, [], ◌∷◌, ◌++◌, Option, Some, drop, refl, sym, ap, ◌∙◌}
use Rattle.std.proofs.lemmas.List.{map_push}
use Rattle.hera_sets.specs.Rows.{Row}
use Rattle.hera_meaning.specs.declared.scalars.Scalar.{Scalar}
use Rattle.hera_meaning.specs.declared.schemas.Attr.{Attr}
use Rattle.hera_meaning.specs.Scalars.{scalar_less}
use Rattle.hera_meaning.specs.Rows.{field_at}
use Rattle.hera_meaning.specs.Aggregates.{column, least_from, greatest_from, least_scalar, greatest_scalar}
use Rattle.rel_algebra.specs.Fronts.{rows_behind}
use Rattle.hera_aggregate.specs.Extremes.{with_lesser, with_greater, found_least, found_greatest, found_or_zero}

pub rows_behind-none : (rows : List Row) → rows_behind 0 rows ≡ rows
rows_behind-none [] = refl
rows_behind-none (x ∷ rows) = ap (λ t. x ∷ t) (rows_behind-none rows)

column-push : (schema : List Attr) (i skip : ℕ) (done : List Row) (r : Row) → column schema i (rows_behind skip (done ++ r ∷ [])) ≡ column schema i (rows_behind skip done) ++ field_at schema (drop skip r) i ∷ []
column-push schema i skip done r = ap (column schema i) (map_push (drop skip) done r) ∙ map_push (λ x. field_at schema x i) (rows_behind skip done) (drop skip r)

least_from-push : (s : Scalar) (xs : List Scalar) (t : Scalar) → least_from s (xs ++ t ∷ []) ≡ cond (scalar_less t (least_from s xs)) t (least_from s xs)
least_from-push s [] t = refl
least_from-push s (x ∷ xs) t = least_from-push (cond (scalar_less x s) x s) xs t

greatest_from-push : (s : Scalar) (xs : List Scalar) (t : Scalar) → greatest_from s (xs ++ t ∷ []) ≡ cond (scalar_less (greatest_from s xs) t) t (greatest_from s xs)
greatest_from-push s [] t = refl
greatest_from-push s (x ∷ xs) t = greatest_from-push (cond (scalar_less s x) x s) xs t

found_least-push : (xs : List Scalar) (t : Scalar) → found_least (xs ++ t ∷ []) ≡ Some (with_lesser (found_least xs) t)
found_least-push [] t = refl
found_least-push (s ∷ xs) t = ap Some (least_from-push s xs t)

found_greatest-push : (xs : List Scalar) (t : Scalar) → found_greatest (xs ++ t ∷ []) ≡ Some (with_greater (found_greatest xs) t)
found_greatest-push [] t = refl
found_greatest-push (s ∷ xs) t = ap Some (greatest_from-push s xs t)

-- the best of one row more
pub least_more : (schema : List Attr) (i skip : ℕ) (done : List Row) (r : Row) (best : Option Scalar) (value after : Scalar) → value ≡ field_at schema (drop skip r) i → after ≡ with_lesser best value → best ≡ found_least (column schema i (rows_behind skip done)) → Some after ≡ found_least (column schema i (rows_behind skip (done ++ r ∷ [])))
least_more schema i skip done r best value after v a b =
    ap Some (a ∙ (λ j. with_lesser (b j) (v j)))
    ∙ sym (ap found_least (column-push schema i skip done r) ∙ found_least-push (column schema i (rows_behind skip done)) (field_at schema (drop skip r) i))

pub greatest_more : (schema : List Attr) (i skip : ℕ) (done : List Row) (r : Row) (best : Option Scalar) (value after : Scalar) → value ≡ field_at schema (drop skip r) i → after ≡ with_greater best value → best ≡ found_greatest (column schema i (rows_behind skip done)) → Some after ≡ found_greatest (column schema i (rows_behind skip (done ++ r ∷ [])))
greatest_more schema i skip done r best value after v a b =
    ap Some (a ∙ (λ j. with_greater (b j) (v j)))
    ∙ sym (ap found_greatest (column-push schema i skip done r) ∙ found_greatest-push (column schema i (rows_behind skip done)) (field_at schema (drop skip r) i))

-- what is found is the least, and the greatest
pub found_is_least : (xs : List Scalar) → found_or_zero (found_least xs) ≡ least_scalar xs
found_is_least [] = refl
found_is_least (s ∷ xs) = refl

pub found_is_greatest : (xs : List Scalar) → found_or_zero (found_greatest xs) ≡ greatest_scalar xs
found_is_greatest [] = refl
found_is_greatest (s ∷ xs) = refl

pub least_found : (schema : List Attr) (i : ℕ) (rows : List Row) (s : Scalar) → Some s ≡ found_least (column schema i (rows_behind 0 rows)) → s ≡ least_scalar (column schema i rows)
least_found schema i rows s h =
    ap found_or_zero h ∙ found_is_least (column schema i (rows_behind 0 rows)) ∙ ap (λ t. least_scalar (column schema i t)) (rows_behind-none rows)

pub greatest_found : (schema : List Attr) (i : ℕ) (rows : List Row) (s : Scalar) → Some s ≡ found_greatest (column schema i (rows_behind 0 rows)) → s ≡ greatest_scalar (column schema i rows)
greatest_found schema i rows s h =
    ap found_or_zero h ∙ found_is_greatest (column schema i (rows_behind 0 rows)) ∙ ap (λ t. greatest_scalar (column schema i t)) (rows_behind-none rows)
