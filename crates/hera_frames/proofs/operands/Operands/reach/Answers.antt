use Rattle.std.proofs.Common.{arith}
use Rattle.hera_frames.proofs.Settled.{reach_more}
use Rattle.hera_frames.proofs.operands.Operands.reach.Goals as goal

pub loop-operand-preserved : goal.loop-operand-preserved
loop-operand-preserved c =
    let next = reach_more c.deref-operand-items.result.now c.loop-operand.operand-index c.args.most c.loop-operand.count c.operand-item.result c.loop-operand-test.true c.operand-item.is c.loop-operand.invariant in
    omega (arith, next, c.max-count.ensures, c.reach.ensures)
