use Rattle.std.proofs.Common.{◌∙◌}
use Rattle.hera_stacks.proofs.Flattened.{numbered_lacking}
use Rattle.hera_stacks.proofs.forms.and_lacking.Goals as goal

pub loop-i-preserved : goal.loop-i-preserved
loop-i-preserved c = numbered_lacking c.args.left.now c.args.right.now c.loop-i.i c.attr.result.now c.loop-i.all.digits c.in_ok-all.all.digits c.attr.ensures.attr c.in_ok-all.ensures ∙ c.loop-i.invariant
