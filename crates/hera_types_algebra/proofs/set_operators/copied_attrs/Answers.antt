use Rattle.hera_types_algebra.proofs.Attributes.{copied_more}
use Rattle.hera_types_algebra.proofs.set_operators.copied_attrs.Goals as goal

pub loop-i-preserved : goal.loop-i-preserved
loop-i-preserved c = copied_more c.args.schema.now c.loop-i.i c.attr.result.now c.attr.ensures.attr c.in_ok-copy.ensures c.in_ok-put.ensures c.loop-i.invariant
