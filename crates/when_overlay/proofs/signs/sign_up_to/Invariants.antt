use Rattle.std.proofs.Common.{◌≡◌}
use Rattle.when_overlay.specs.Layered.{IsTip, path}
use Rattle.when_overlay.specs.Seeking.{sign_over}
use Rattle.when_overlay.proofs.Layering.{height}
use Rattle.when_overlay.proofs.signs.sign_up_to.Given as goal

-- the layers above say nothing
abbrev pub invariant-loop-at : goal.invariant-loop-at
invariant-loop-at l = record {
  left : sign_over l.rel.0 (path l.layers.layers l.at) l.row ≡ sign_over l.rel.0 (path l.layers.layers l.fn.tip) l.row;
  tip : IsTip l.layers.layers l.at;
}

abbrev pub decreases-loop-at : goal.decreases-loop-at
decreases-loop-at l = height l.at
