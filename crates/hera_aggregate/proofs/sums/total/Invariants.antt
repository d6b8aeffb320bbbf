use Rattle.std.proofs.Common.{◌≡◌, ◌<◌, ◌^◌, List, ℕ, ◌++◌, length}
use Rattle.std.specs.List.{filter}
use Rattle.std.specs.Option.{option_copied}
use Rattle.hera_sets.specs.Rows.{is_past}
use Rattle.hera_meaning.specs.Aggregates.{sum_of}
use Rattle.rel_algebra.specs.Fronts.{rows_behind}
use Rattle.hera_aggregate.proofs.Totals.{IsWithin}
use Rattle.hera_aggregate.proofs.sums.total.Given as goal

-- the sum of the rows done, which is at most 2 ^ 63 for each row, and how many they are
abbrev pub invariant-loop-row : goal.invariant-loop-row
invariant-loop-row g l = (done : List (List ℕ)) × (done ++ filter (is_past (option_copied l.last)) (g.A.Sorted.rows l.a) ≡ g.A.Sorted.rows l.a) × (l.total ≡ sum_of l.schema l.i (rows_behind l.skip done)) × IsWithin (length done) l.total × record { counted : l.n ≡ length done; fits : l.n < 2 ^ 63 }

abbrev pub decreases-loop-row : goal.decreases-loop-row
decreases-loop-row g l = length (filter (is_past (option_copied l.last)) (g.A.Sorted.rows l.a))
