use Rattle.std.proofs.Common.{ap, Err}
use Rattle.hera_outcome.specs.Passages.{passage}
use Rattle.hera_outcome.proofs.Passing.{answered_weaker}
use Rattle.hera_top.specs.Commands.{refuses, performs}
use Rattle.hera_top.proofs.Reading.{fault_answered, fault_apart}
use Rattle.hera_top.proofs.script.answer_script.Goals as goal

pub returns-in_err-program-clause-answered : goal.returns-in_err-program-clause-answered
returns-in_err-program-clause-answered g c =
    fault_answered g.W.Output g.W.Outside c.args.outside.now _ c.from_residual.result c.in_err-program.field-0.0 c.from_residual.ensures.1 (λ cause at is. refuses (c.in_err-program.ensures.refused cause at (ap Err is)))

pub returns-in_err-program-clause-apart : goal.returns-in_err-program-clause-apart
returns-in_err-program-clause-apart g c = λ none. fault_apart g.W.Output g.W.Outside c.args.outside.now c.from_residual.result c.in_err-program.field-0.0 c.from_residual.ensures.1

pub returns-clause-answered : goal.returns-clause-answered
returns-clause-answered g c =
    answered_weaker _ _ c.perform.result (passage g.W.Output g.W.Outside c.args.outside.now c.perform.new.outside) (λ o comes. performs c.requires.short c.in_ok-program.ensures.accepted comes) c.perform.ensures.answered

pub returns-clause-apart : goal.returns-clause-apart
returns-clause-apart g c = c.perform.ensures.apart
