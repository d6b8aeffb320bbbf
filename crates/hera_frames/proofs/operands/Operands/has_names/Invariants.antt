use Rattle.std.proofs.Common.{take}
use Rattle.hera_fits.specs.Newest.{newest}
use Rattle.hera_frames.specs.Items.{item_of, AreHeld}
use Rattle.hera_frames.proofs.operands.Operands.has_names.Given as goal

abbrev pub invariant-loop-operand : goal.invariant-loop-operand
invariant-loop-operand l = AreHeld (newest item_of (take l.operand-index l.operand-items))
