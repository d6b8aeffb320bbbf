use Rattle.std.proofs.Common.{◌≡◌, List, ℕ, ◌++◌, length}
use Rattle.std.specs.List.{filter}
use Rattle.std.specs.Option.{option_copied}
use Rattle.hera_sets.specs.Rows.{is_past, normal}
use Rattle.join_exec.proofs.Matches.{matches_of}
use Rattle.join_exec.proofs.joining.put_joined.Given as goal

-- the right rows done
abbrev pub invariant-loop-other : goal.invariant-loop-other
invariant-loop-other g l =
    (done : List (List ℕ)) × (done ++ filter (is_past (option_copied l.last)) (g.B.Sorted.rows l.b) ≡ g.B.Sorted.rows l.b) × ((xs : List (List ℕ)) → l.initial.set ≡ normal xs → l.set ≡ normal (xs ++ matches_of l.left l.right l.row done))

abbrev pub decreases-loop-other : goal.decreases-loop-other
decreases-loop-other g l = length (filter (is_past (option_copied l.last)) (g.B.Sorted.rows l.b))
