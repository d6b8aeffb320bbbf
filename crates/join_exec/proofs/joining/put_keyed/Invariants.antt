use Rattle.std.proofs.Common.{◌≡◌, List, ℕ, ◌++◌, length}
use Rattle.std.specs.List.{filter}
use Rattle.std.specs.Option.{option_copied}
use Rattle.hera_sets.specs.Rows.{is_past, holds, normal}
use Rattle.rel_algebra.specs.Fronts.{rows_behind}
use Rattle.join_exec.proofs.Matches.{matches_of}
use Rattle.join_exec.proofs.joining.put_keyed.Given as goal

-- the rows behind their common fields done
abbrev pub invariant-loop-keyed : goal.invariant-loop-keyed
invariant-loop-keyed g l =
    (done : List (List ℕ)) × (done ++ filter (is_past (option_copied l.last)) (g.C.Sorted.rows l.others) ≡ g.C.Sorted.rows l.others)
    × ((xs : List (List ℕ)) → l.initial.set ≡ normal xs → l.set ≡ normal (xs ++ matches_of l.left l.right l.row (filter (holds (g.B.Sorted.rows l.b)) (rows_behind l.skip done))))

abbrev pub decreases-loop-keyed : goal.decreases-loop-keyed
decreases-loop-keyed g l = length (filter (is_past (option_copied l.last)) (g.C.Sorted.rows l.others))
