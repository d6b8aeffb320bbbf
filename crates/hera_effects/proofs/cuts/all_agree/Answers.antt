use Rattle.std.proofs.Common.{arith}
use Rattle.hera_effects.proofs.Cutting.{agree_apart}
use Rattle.hera_effects.proofs.cuts.all_agree.Goals as goal

pub returns-then-args-forms : goal.returns-then-args-forms
returns-then-args-forms c = agree_apart c.args.args.now c.args.forms.now (λ e. absurd (omega (arith, e, c.if-args-forms.true)))
