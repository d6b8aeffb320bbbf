use Rattle.std.proofs.Common.{drop, ◌∙◌, ap}
use Rattle.hera_steps.specs.Finding.{found_step}
use Rattle.hera_steps.specs.Working.{machine_at}
use Rattle.hera_steps.proofs.Instructing.{then_told}
use Rattle.hera_steps.proofs.running.Running.relate.Goals as goal

pub returns-in-Some-clause-step : goal.returns-in-Some-clause-step
returns-in-Some-clause-step c =
    let s = c.args.stored.now.state in
    let m = machine_at s c.args.self.now in
    let told = rw c.in-Some.is at c.in_ok-related.ensures in
    then_told c.answer.result s c.answer.new.self _ _ (c.answer.ensures.step s)
    (ap (λ k. found_step c.args.at (drop k m.operands) m c.in-Some.found) c.arity.ensures ∙ told.2 c.args.at)
