use Rattle.std.proofs.Common.{◌≡◌, take, length}
use Rattle.std.specs.List.{filter}
use Rattle.hera_sets.specs.Rows.{holds}
use Rattle.when_overlay.proofs.counts.count_shared.Given as goal

-- those among the rows looked at are counted
abbrev pub invariant-loop-i : goal.invariant-loop-i
invariant-loop-i g l = l.count ≡ length (filter (holds (g.S.Sorted.rows l.rows)) (take l.i l.named))
