use Rattle.std.proofs.Common.{◌∙◌}
use Rattle.hera_meaning.specs.declared.schemas.Attr.{Attr}
use Rattle.hera_stacks.proofs.Flattened.{numbered_on}
use Rattle.hera_stacks.proofs.forms.and_schema.Goals as goal

pub loop-i-preserved : goal.loop-i-preserved
loop-i-preserved c = numbered_on (λ (a : Attr). a.kind) c.args.schema.now c.loop-i.i c.attr.result.now c.loop-i.all.digits c.in_ok-all.all.digits c.attr.ensures.attr c.in_ok-all.ensures ∙ c.loop-i.invariant
