use Rattle.std.proofs.Common.{◌∙◌, Err, ap, sym, subst}
use Rattle.hera_outcome.specs.Answers.{number_of, IsConcluded}
use Rattle.hera_outcome.specs.Outcomes.{refused}
use Rattle.hera_outcome.specs.Passages.{passage}
use Rattle.hera_outcome.specs.Told.{IsTold}
use Rattle.hera_outcome.specs.declared.refusal.Refusal.{Refusal}
use Rattle.hera_outcome.proofs.Passing.{keeps_none, ok_no_err, same_refused, ending_not_six}
use Rattle.hera_outcome.proofs.telling.conclude.Goals as goal

pub returns-in-Ok-clause-refused : goal.returns-in-Ok-clause-refused
returns-in-Ok-clause-refused g c = λ refusal is. absurd (ok_no_err _ _ (sym c.in-Ok.is ∙ is))

pub returns-in-Ok-clause-number : goal.returns-in-Ok-clause-number
returns-in-Ok-clause-number g c = λ concluded. c.number.ensures ∙ ap number_of (sym c.in-Ok.is)

pub returns-in-Ok-clause-keeps : goal.returns-in-Ok-clause-keeps
returns-in-Ok-clause-keeps g c = keeps_none g.W.Output g.W.Outside c.args.outside.now

pub returns-in-Ok-clause-no_device : goal.returns-in-Ok-clause-no_device
returns-in-Ok-clause-no_device g c = λ other is. ending_not_six _ (sym c.number.ensures ∙ is)

pub returns-in-Err-Refused-clause-refused : goal.returns-in-Err-Refused-clause-refused
returns-in-Err-Refused-clause-refused g c = λ refusal is.
    subst (λ (r : Refusal). IsTold (refused r) c.refuse.result (passage g.W.Output g.W.Outside c.args.outside.now c.refuse.new.outside)) (same_refused _ refusal (sym (c.in-Err-Refused.is ∙ ap Err c.in-Err-Refused.field-0-is) ∙ is)) c.refuse.ensures.told

pub returns-in-Err-Refused-clause-number : goal.returns-in-Err-Refused-clause-number
returns-in-Err-Refused-clause-number g c = λ concluded. absurd (subst IsConcluded (c.in-Err-Refused.is ∙ ap Err c.in-Err-Refused.field-0-is) concluded)

pub returns-in-Err-Refused-clause-still : goal.returns-in-Err-Refused-clause-still
returns-in-Err-Refused-clause-still g c = λ concluded. absurd (subst IsConcluded (c.in-Err-Refused.is ∙ ap Err c.in-Err-Refused.field-0-is) concluded)

pub returns-in-Err-Refused-clause-keeps : goal.returns-in-Err-Refused-clause-keeps
returns-in-Err-Refused-clause-keeps g c = c.refuse.ensures.keeps

pub returns-in-Err-Refused-clause-no_device : goal.returns-in-Err-Refused-clause-no_device
returns-in-Err-Refused-clause-no_device g c = λ other. c.refuse.ensures.no_device

pub returns-in-Err-clause-number : goal.returns-in-Err-clause-number
returns-in-Err-clause-number g c = λ concluded. c.number-in-Err.ensures ∙ ap number_of (sym c.in-Err.is)

pub returns-in-Err-clause-keeps : goal.returns-in-Err-clause-keeps
returns-in-Err-clause-keeps g c = keeps_none g.W.Output g.W.Outside c.args.outside.now
