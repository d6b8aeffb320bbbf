use Rattle.std.proofs.Common.{◌≡◌, take, min}
use Rattle.hera_fits.specs.Newest.{newest}
use Rattle.hera_frames.specs.Items.{item_of, reach}
use Rattle.hera_frames.proofs.operands.Operands.reach.Given as goal

abbrev pub invariant-loop-operand : goal.invariant-loop-operand
invariant-loop-operand l = l.count ≡ min l.most (reach (newest item_of (take l.operand-index l.operand-items)))
