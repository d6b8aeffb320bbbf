use Rattle.hera_types_algebra.proofs.Attributes.{joined_more}
use Rattle.hera_types_algebra.proofs.set_operators.joined_attrs.Goals as goal

pub loop-i-preserved : goal.loop-i-preserved
loop-i-preserved c = joined_more c.args.left.now c.args.right.now c.loop-i.i c.attr.result.now c.attr.ensures.attr c.in_ok-add_lacking.ensures c.loop-i.invariant
