use Rattle.std.proofs.Common.{◌∙◌, ℕ, sym, subst}
use Rattle.hera_outcome.specs.Outcomes.{refused}
use Rattle.hera_outcome.specs.Passages.{passage}
use Rattle.hera_outcome.specs.Told.{IsTold}
use Rattle.hera_outcome.proofs.Passing.{told_by, told_none, keeps_none}
use Rattle.hera_outcome.proofs.telling.refuse.Goals as goal

pub returns-in-Ok-say-clause-told : goal.returns-in-Ok-say-clause-told
returns-in-Ok-say-clause-told g c =
    told_by (refused c.args.refusal.now) (passage g.W.Output g.W.Outside c.args.outside.now c.say.new.outside) c.bytes.result.now _ c.status.result tt (sym (c.bytes.ensures ∙ c.in-Ok.ensures)) c.in-Ok-say.ensures.said c.status.ensures tt

pub returns-in-Ok-clause-told : goal.returns-in-Ok-clause-told
returns-in-Ok-clause-told g c =
    told_by (refused c.args.refusal.now) (passage g.W.Output g.W.Outside c.args.outside.now c.say.new.outside) c.bytes.result.now _ c.number.result tt (sym (c.bytes.ensures ∙ c.in-Ok.ensures)) c.in-Err-say.ensures.said tt c.number.ensures

pub returns-clause-told : goal.returns-clause-told
returns-clause-told g c =
    subst (λ (n : ℕ). IsTold (refused c.args.refusal.now) n (passage g.W.Output g.W.Outside c.args.outside.now c.args.outside.now)) (sym c.number-in-Err.ensures) (told_none g.W.Output g.W.Outside (refused c.args.refusal.now) c.args.outside.now tt)

pub returns-in-Ok-say-clause-keeps : goal.returns-in-Ok-say-clause-keeps
returns-in-Ok-say-clause-keeps g c = c.say.ensures.said.keeps

pub returns-in-Ok-clause-keeps : goal.returns-in-Ok-clause-keeps
returns-in-Ok-clause-keeps g c = c.say.ensures.said.keeps

pub returns-clause-keeps : goal.returns-clause-keeps
returns-clause-keeps g c = keeps_none g.W.Output g.W.Outside c.args.outside.now
