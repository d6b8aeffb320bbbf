use Rattle.std.proofs.Common.{◌∙◌, sym, arith}
use Rattle.hera_steps.proofs.Sights.{the_view}
use Rattle.hera_steps.proofs.Walked.{ended_told, moved_told}
use Rattle.hera_steps.proofs.running.Running.next.Goals as goal

pub returns-in-None-clause-step : goal.returns-in-None-clause-step
returns-in-None-clause-step c =
    ended_told c.args.stored.now.state c.args.code.now c.args.i c.args.a (the_view c.self.inside) c.args.self.now c.next.new.self c.self.view_is
    (sym c.has.ensures ∙ c.if-not-has.false) (omega (arith, c.len-2.ensures, c.if-a-len.false)) (omega (arith, c.len.ensures, c.if-len-eq0.false)) c.in_ok-next.ensures.step c.in-None.ensures

pub returns-in_ok-put_tuple-in-Some-clause-step : goal.returns-in_ok-put_tuple-in-Some-clause-step
returns-in_ok-put_tuple-in-Some-clause-step c =
    moved_told c.args.stored.now.state c.args.code.now c.args.i c.args.a (the_view c.self.inside) c.args.self.now c.next.new.self c.self.view_is
    (sym c.has.ensures ∙ c.if-not-has.false) (omega (arith, c.len-2.ensures, c.if-a-len.false)) (omega (arith, c.len.ensures, c.if-len-eq0.false)) c.in_ok-next.ensures.step
    c.in-Some.row.now c.put_tuple.new.self c.in-Some.ensures c.in_ok-put_tuple-in-Some.ensures.put
