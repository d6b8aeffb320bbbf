use Rattle.std.proofs.Common.{◌≡◌, List, ℕ, ◌++◌, length, map}
use Rattle.std.specs.List.{filter}
use Rattle.std.specs.Option.{option_copied}
use Rattle.hera_sets.specs.Rows.{is_past, normal}
use Rattle.hera_aggregate.specs.Groups.{keyed_row}
use Rattle.hera_aggregate.proofs.groups.keyed.Given as goal

-- the rows done, each behind its key
abbrev pub invariant-loop-row : goal.invariant-loop-row
invariant-loop-row g l = (done : List (List ℕ)) × (done ++ filter (is_past (option_copied l.last)) (g.A.Sorted.rows l.a) ≡ g.A.Sorted.rows l.a) × (l.set ≡ normal (map (keyed_row l.schema l.by) done))

abbrev pub decreases-loop-row : goal.decreases-loop-row
decreases-loop-row g l = length (filter (is_past (option_copied l.last)) (g.A.Sorted.rows l.a))
