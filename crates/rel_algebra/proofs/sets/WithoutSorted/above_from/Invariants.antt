use Rattle.std.proofs.Common.{◌≡◌, length}
use Rattle.std.specs.List.{filter, find}
use Rattle.std.specs.Option.{option_copied}
use Rattle.hera_sets.specs.Rows.{is_past}
use Rattle.hera_sets.specs.Sets.{is_apart}
use Rattle.rel_algebra.proofs.sets.WithoutSorted.above_from.Given as goal

-- what is sought behind the last row is what is sought
abbrev pub invariant-loop-row : goal.invariant-loop-row
invariant-loop-row g l =
    let rows = g.A.Sorted.rows l.self.a.now in
    let apart = is_apart (g.B.Sorted.rows l.self.b.now) in
    find apart (filter (is_past (option_copied l.last)) rows) ≡ find apart (filter (is_past (option_copied l.bound)) rows)

abbrev pub decreases-loop-row : goal.decreases-loop-row
decreases-loop-row g l = length (filter (is_past (option_copied l.last)) (g.A.Sorted.rows l.self.a.now))
