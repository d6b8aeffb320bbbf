use Rattle.std.proofs.Common.{◌≡◌, List, ℕ, ◌++◌, length, None, Some}
use Rattle.std.specs.List.{filter, find}
use Rattle.std.specs.Option.{option_copied}
use Rattle.hera_sets.specs.Rows.{is_past, IsAscending, normal}
use Rattle.rel_algebra.specs.Fronts.{begun_in, begun_of}
use Rattle.join_exec.specs.Gaps.{last_or}
use Rattle.join_exec.proofs.Matches.{matches_of}
use Rattle.join_exec.proofs.beside.put_beside.Given as goal

-- the right rows done, and what is ahead
abbrev pub invariant-loop-other : goal.invariant-loop-other
invariant-loop-other g l =
    let rows = g.B.Sorted.rows l.b in
    let last = option_copied l.last in
    (done : List (List ℕ)) × (done ++ filter (is_past last) (begun_of l.front rows) ≡ begun_of l.front rows) × ((xs : List (List ℕ)) → l.initial.set ≡ normal xs → l.set ≡ normal (xs ++ matches_of l.left l.right l.row done))
    × record {
      ordered : IsAscending rows;
      next : begun_in l.front (option_copied l.ahead) ≡ find (is_past last) (begun_of l.front rows);
      behind : begun_in l.front (option_copied l.ahead) ≡ None → option_copied l.ahead ≡ find (is_past (Some (last_or l.front last))) rows;
    }

abbrev pub decreases-loop-other : goal.decreases-loop-other
decreases-loop-other g l = length (filter (is_past (option_copied l.last)) (begun_of l.front (g.B.Sorted.rows l.b)))
