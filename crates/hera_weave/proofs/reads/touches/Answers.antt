use Rattle.std.proofs.Common.{sym, ◌∙◌}
use Rattle.hera_weave.proofs.Touching.{touched_on, touched_here}
use Rattle.hera_weave.proofs.reads.touches.Goals as goal

pub returns-then-touched_by : goal.returns-then-touched_by
returns-then-touched_by c = touched_here c.args.code.now.instrs c.loop-at.at c.at.result.now c.args.delta.now _ c.at.ensures (sym c.touched_by.ensures ∙ c.if-touched_by.true) c.loop-at.invariant

pub loop-at-preserved : goal.loop-at-preserved
loop-at-preserved c = touched_on c.args.code.now.instrs c.loop-at.at c.at.result.now c.args.delta.now _ c.at.ensures (sym c.touched_by.ensures ∙ c.if-touched_by.false) c.loop-at.invariant
