use Rattle.std.proofs.Common.{◌∷◌, ◌∙◌, sym, ap}
use Rattle.hera_code.specs.Machine.{quiet}
use Rattle.hera_values.specs.Little.{plain_of}
use Rattle.hera_frames.specs.Items.{held}
use Rattle.hera_steps.proofs.Sights.{the_view}
use Rattle.hera_steps.specs.Working.{Work, machine_at}
use Rattle.hera_steps.proofs.Instructing.{returned}
use Rattle.hera_steps.proofs.running.Running.ret_val.Goals as goal

pub returns-clause-step : goal.returns-clause-step
returns-clause-step c =
    let s = c.args.stored.now.state in
    let v = plain_of c.in-Some.v in
    let top = rw c.in-Some.is at c.in_ok-v.ensures.value in
    ap (λ (w : Work). quiet (machine_at s (record w { operands = c.push.new.self.items; spare = c.push.new.self.spare }))) c.self-2.view_is
    ∙ returned s c.args.self.now (the_view c.self.inside) c.resume.new.self v c.pop_value.new.self.items c.pop_value.new.self.spare c.push.new.self.spare c.push.new.self.items
    c.self.view_is top
    (sym (c.resume.ensures.done s c.if-not-resume.false))
    (c.in_ok-push.ensures.ok ∙ ap (λ (w : Work). held v ∷ w.operands) c.self-2.view_is)
