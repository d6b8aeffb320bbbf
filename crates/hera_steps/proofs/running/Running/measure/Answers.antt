use Rattle.hera_steps.proofs.Instructing.{then_told}
use Rattle.hera_steps.proofs.running.Running.measure.Goals as goal

pub returns-in-None-clause-step : goal.returns-in-None-clause-step
returns-in-None-clause-step c =
    let none = rw c.in-None.is at c.in_ok-measured_here.ensures.found in
    none c.args.at

pub returns-in-Some-clause-step : goal.returns-in-Some-clause-step
returns-in-Some-clause-step c =
    let s = c.args.stored.now.state in
    let told = rw c.in-Some.is at c.in_ok-measured_here.ensures.found in
    then_told c.answer.result s c.answer.new.self _ _ (c.answer.ensures.step s) (told.1 c.args.at)
