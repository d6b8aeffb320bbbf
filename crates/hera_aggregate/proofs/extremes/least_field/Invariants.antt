use Rattle.std.proofs.Common.{◌≡◌, List, ℕ, ◌++◌, length}
use Rattle.std.specs.List.{filter}
use Rattle.std.specs.Option.{option_copied, option_map}
use Rattle.hera_sets.specs.Rows.{is_past}
use Rattle.hera_meaning.specs.Aggregates.{column}
use Rattle.hera_row.specs.Fields.{told}
use Rattle.rel_algebra.specs.Fronts.{rows_behind}
use Rattle.hera_aggregate.specs.Extremes.{found_least}
use Rattle.hera_aggregate.proofs.extremes.least_field.Given as goal

-- the best of the rows done
abbrev pub invariant-loop-row : goal.invariant-loop-row
invariant-loop-row g l = (done : List (List ℕ)) × (done ++ filter (is_past (option_copied l.last)) (g.A.Sorted.rows l.a) ≡ g.A.Sorted.rows l.a) × (option_map told l.best ≡ found_least (column l.schema l.i (rows_behind l.skip done)))

abbrev pub decreases-loop-row : goal.decreases-loop-row
decreases-loop-row g l = length (filter (is_past (option_copied l.last)) (g.A.Sorted.rows l.a))
