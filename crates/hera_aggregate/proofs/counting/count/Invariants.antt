use Rattle.std.proofs.Common.{◌≡◌, ◌<◌, ◌^◌, ◌+◌, length}
use Rattle.std.specs.List.{filter}
use Rattle.std.specs.Option.{option_copied}
use Rattle.hera_sets.specs.Rows.{is_past}
use Rattle.hera_aggregate.proofs.counting.count.Given as goal

-- the rows counted, and those past the last one, are all rows
abbrev pub invariant-loop-row : goal.invariant-loop-row
invariant-loop-row g l = record { counted : l.n + length (filter (is_past (option_copied l.last)) (g.A.Sorted.rows l.a)) ≡ length (g.A.Sorted.rows l.a); fits : l.n < 2 ^ 63 }

abbrev pub decreases-loop-row : goal.decreases-loop-row
decreases-loop-row g l = length (filter (is_past (option_copied l.last)) (g.A.Sorted.rows l.a))
