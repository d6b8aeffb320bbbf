use Rattle.std.proofs.Common.{◌≡◌, ◌≤◌, take, length}
use Rattle.when_overlay.specs.Seeking.{sign_over}
use Rattle.when_overlay.proofs.signs.sign_over.Given as goal

-- the deltas behind say nothing
abbrev pub invariant-loop-i : goal.invariant-loop-i
invariant-loop-i l = record {
  left : sign_over l.rel.0 (take l.i l.deltas) l.row ≡ sign_over l.rel.0 l.deltas l.row;
  within : l.i ≤ length l.deltas;
}

abbrev pub decreases-loop-i : goal.decreases-loop-i
decreases-loop-i l = l.i
