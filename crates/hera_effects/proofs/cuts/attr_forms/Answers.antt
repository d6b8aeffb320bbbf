use Rattle.std.proofs.Common.{refl, ◌∙◌, arith}
use Rattle.hera_meaning.specs.declared.schemas.Attr.{Attr}
use Rattle.hera_meaning.specs.Forms.{of_scalar}
use Rattle.hera_stacks.specs.Flat.{flat_form}
use Rattle.hera_effects.proofs.Cutting.{forms_more, take_over, attr_forms_is}
use Rattle.hera_effects.proofs.cuts.attr_forms.Goals as goal

pub loop-i-preserved : goal.loop-i-preserved
loop-i-preserved c = c.in_ok-push.ensures.items ∙ forms_more (λ (a : Attr). flat_form (of_scalar a.kind)) c.args.schema.now c.loop-i.i c.attr.result.now c.loop-i.forms.items _ c.attr.ensures.attr refl c.loop-i.invariant

pub returns : goal.returns
returns c =
    c.loop-i.invariant ∙ take_over (λ (a : Attr). flat_form (of_scalar a.kind)) c.args.schema.now c.loop-i.i (omega (arith, c.loop-i-test.false, c.len-i-end.ensures.count)) ∙ attr_forms_is c.args.schema.now
