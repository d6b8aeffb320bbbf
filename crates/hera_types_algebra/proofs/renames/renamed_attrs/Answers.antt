use Rattle.hera_types_algebra.proofs.Attributes.{renamed_more}
use Rattle.hera_types_algebra.proofs.renames.renamed_attrs.Goals as goal

pub loop-i-preserved : goal.loop-i-preserved
loop-i-preserved c = renamed_more c.args.renamed.now c.args.schema.now c.loop-i.i c.attr-attr.result.now c.attr-attr.ensures.attr c.in_ok-name.ensures c.in_ok-put.ensures c.loop-i.invariant
