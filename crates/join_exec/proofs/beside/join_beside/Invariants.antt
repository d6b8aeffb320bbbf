use Rattle.std.proofs.Common.{◌≡◌, List, ℕ, ◌++◌, length, IfSome}
use Rattle.std.specs.List.{filter}
use Rattle.std.specs.Option.{option_copied}
use Rattle.hera_sets.specs.Rows.{is_past, normal}
use Rattle.join_exec.specs.Gaps.{IsGap}
use Rattle.join_exec.proofs.Matches.{all_matches}
use Rattle.join_exec.proofs.beside.join_beside.Given as goal

-- the left rows done, and what is known of the right
abbrev pub invariant-loop-row : goal.invariant-loop-row
invariant-loop-row g l =
    (done : List (List ℕ)) × (done ++ filter (is_past (option_copied l.last)) (g.A.Sorted.rows l.a) ≡ g.A.Sorted.rows l.a) × (l.set ≡ normal (all_matches l.left l.right done (g.B.Sorted.rows l.b)))
    × IfSome l.gap (IsGap (g.B.Sorted.rows l.b))

abbrev pub decreases-loop-row : goal.decreases-loop-row
decreases-loop-row g l = length (filter (is_past (option_copied l.last)) (g.A.Sorted.rows l.a))
