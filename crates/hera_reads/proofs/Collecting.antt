-- The rows past a bound, taken one by one.
use Rattle.std.proofs.Common.{◌≡◌, List, [], ◌∷◌, ◌++◌, Option, None, Some, sym, ap, ◌∙◌, subst}
use Rattle.std.proofs.lemmas.List.{append-nil, append_assoc}
use Rattle.std.specs.List.{filter, find}
use Rattle.hera_sets.specs.Rows.{Row, is_past, IsAscending}
use Rattle.hera_sets.proofs.Lists.{ascending_filter, ascending_front, filter_past_step, filter_none_found}

pub past_step : (done xs : List Row) (b last : Option Row) (x : Row) → IsAscending xs → find (is_past last) xs ≡ Some x → done ++ filter (is_past last) xs ≡ filter (is_past b) xs →
    (done ++ x ∷ []) ++ filter (is_past (Some x)) xs ≡ filter (is_past b) xs
past_step done xs b last x up h e = append_assoc done (x ∷ []) (filter (is_past (Some x)) xs) ∙ ap (λ t. done ++ t) (sym (filter_past_step last xs x up h)) ∙ e

-- and the row may be pushed
pub past_push : (done xs : List Row) (b last : Option Row) (x : Row) → IsAscending xs → find (is_past last) xs ≡ Some x → done ++ filter (is_past last) xs ≡ filter (is_past b) xs → IsAscending (done ++ x ∷ [])
past_push done xs b last x up h e = ascending_front (done ++ x ∷ []) (filter (is_past (Some x)) xs) (subst IsAscending (sym (past_step done xs b last x up h e)) (ascending_filter (is_past b) xs up))

pub past_end : (done xs : List Row) (b last : Option Row) → find (is_past last) xs ≡ None → done ++ filter (is_past last) xs ≡ filter (is_past b) xs → done ≡ filter (is_past b) xs
past_end done xs b last h e = sym (append-nil done) ∙ ap (λ t. done ++ t) (sym (filter_none_found (is_past last) xs h)) ∙ e
