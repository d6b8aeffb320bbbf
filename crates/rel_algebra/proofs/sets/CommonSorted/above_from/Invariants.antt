use Rattle.std.proofs.Common.{◌≡◌, length}
use Rattle.std.specs.List.{filter, find}
use Rattle.std.specs.Option.{option_copied}
use Rattle.hera_sets.specs.Rows.{is_past, holds}
use Rattle.rel_algebra.proofs.sets.CommonSorted.above_from.Given as goal

-- what is sought behind the last row is what is sought
abbrev pub invariant-loop-row : goal.invariant-loop-row
invariant-loop-row g l =
    let rows = g.A.Sorted.rows l.self.a.now in
    let common = holds (g.B.Sorted.rows l.self.b.now) in
    find common (filter (is_past (option_copied l.last)) rows) ≡ find common (filter (is_past (option_copied l.bound)) rows)

abbrev pub decreases-loop-row : goal.decreases-loop-row
decreases-loop-row g l = length (filter (is_past (option_copied l.last)) (g.A.Sorted.rows l.self.a.now))
