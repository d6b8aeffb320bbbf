use Rattle.hera_steps.proofs.Sights.{the_view}
use Rattle.hera_steps.proofs.Instructing.{few_told, all_told, then_told}
use Rattle.hera_steps.proofs.running.Running.compute.Goals as goal

pub returns-in-None-clause-step : goal.returns-in-None-clause-step
returns-in-None-clause-step c =
    few_told c.args.stored.now.state c.args.op.now c.args.at c.arity-count.result 0 c.args.self.now (the_view c.self.inside) c.take.new.self.items c.in_ok-take.field-0
    c.self.view_is c.arity-count.ensures c.in_ok-take.ensures.taken c.in-None.is

pub returns-in-Some-clause-step : goal.returns-in-Some-clause-step
returns-in-Some-clause-step c =
    let s = c.args.stored.now.state in
    then_told c.operate.result s c.operate.new.self _ _ (c.operate.ensures.step s)
    (all_told s c.args.op.now c.args.at c.arity-count.result c.take.new.self.spare c.args.self.now (the_view c.self.inside) c.take.new.self.items c.in_ok-take.field-0
    c.self.view_is c.arity-count.ensures c.in_ok-take.ensures.taken c.in-Some.args c.in-Some.is)
