use Rattle.std.proofs.Common.{Result}
use Rattle.hera_outcome.specs.declared.answer.Ending.{Ending}
use Rattle.hera_outcome.specs.declared.answer.Stop.{Stop}
use Rattle.hera_outcome.specs.Passages.{Passage, passage}
use Rattle.hera_outcome.specs.Told.{Says}
use Rattle.hera_outcome.proofs.Passing.{handed_on, says_as, says_so}
use Rattle.hera_outcome.proofs.telling.tell.Goals as goal

pub returns-clause-said : goal.returns-clause-said
returns-clause-said g c = says_as c.args.text.now (passage g.W.Output g.W.Outside c.args.outside.now c.say.new.outside) _ _ c.in_ok-say.ensures.said

pub returns-in_err-say-clause-said : goal.returns-in_err-say-clause-said
returns-in_err-say-clause-said g c =
    let v : Passage = passage g.W.Output g.W.Outside c.args.outside.now c.say.new.outside in
    let stop = c.in_err-say.field-0.0 in
    handed_on (λ (r : Result Ending Stop). Says c.args.text.now r v) c.from_residual.result stop c.from_residual.ensures.1 (says_so c.args.text.now v stop c.in_err-say.ensures.said)
