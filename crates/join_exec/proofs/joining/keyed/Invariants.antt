use Rattle.std.proofs.Common.{◌≡◌, List, ℕ, ◌++◌, length, map}
use Rattle.std.specs.List.{filter}
use Rattle.std.specs.Option.{option_copied}
use Rattle.hera_sets.specs.Rows.{is_past, normal}
use Rattle.join_exec.specs.Leading.{keyed_of}
use Rattle.join_exec.proofs.joining.keyed.Given as goal

-- the rows done, each behind its key
abbrev pub invariant-loop-row : goal.invariant-loop-row
invariant-loop-row g l = (done : List (List ℕ)) × (done ++ filter (is_past (option_copied l.last)) (g.B.Sorted.rows l.b) ≡ g.B.Sorted.rows l.b) × (l.set ≡ normal (map (keyed_of l.left l.right) done))

abbrev pub decreases-loop-row : goal.decreases-loop-row
decreases-loop-row g l = length (filter (is_past (option_copied l.last)) (g.B.Sorted.rows l.b))
