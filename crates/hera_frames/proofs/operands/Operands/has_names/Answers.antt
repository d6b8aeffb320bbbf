use Rattle.std.proofs.Common.{◌∙◌, sym}
use Rattle.hera_frames.specs.Items.{item_of}
use Rattle.hera_frames.proofs.Settled.{held_more, unrelated}
use Rattle.hera_frames.proofs.operands.Operands.has_names.Goals as goal

pub loop-operand-preserved : goal.loop-operand-preserved
loop-operand-preserved c =
    held_more c.deref-operand-items.result.now c.loop-operand.operand-index c.operand-item.result c.loop-operand-test.true c.operand-item.is
    (unrelated (item_of c.operand-item.result) (sym c.is_named.ensures ∙ c.if-is_named.false)) c.loop-operand.invariant
