use Rattle.std.proofs.Common.{length, ap, ◌∙◌, sym, arith}
use Rattle.hera_steps.proofs.Sights.{the_view}
use Rattle.hera_steps.specs.Working.{Work}
use Rattle.hera_steps.proofs.Calling.{as_many, few_called, spent_called}
use Rattle.hera_steps.proofs.running.Running.call.Goals as goal

pub returns-then-len-body-clause-step : goal.returns-then-len-body-clause-step
returns-then-len-body-clause-step c =
    few_called c.args.stored.now.state (the_view c.self.inside) c.args.self.now c.in-Some.body _ c.self.view_is (sym c.in-Some.is ∙ c.get.ensures)
    (omega (arith, c.if-body.false)) (omega (arith, c.len.ensures, c.if-len-body.true))

pub returns-then-self-eq0-clause-step : goal.returns-then-self-eq0-clause-step
returns-then-self-eq0-clause-step c =
    spent_called c.args.stored.now.state (the_view c.self.inside) c.args.self.now c.in-Some.body _ c.self.view_is (sym c.in-Some.is ∙ c.get.ensures)
    (omega (arith, c.if-body.false)) (omega (arith, c.len.ensures, c.if-len-body.false)) (omega (arith, c.if-self-eq0.true))

pub begin-requires-clause-there : goal.begin-requires-clause-there
begin-requires-clause-there c =
    omega (arith, c.len.ensures, c.if-len-body.false, as_many c.args.stored.now.state c.hold.new.self c.args.self.now c.in_ok-hold.ensures.same, ap (λ (w : Work). length w.operands) c.self.view_is)
