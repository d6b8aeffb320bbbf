use Rattle.std.proofs.Common.{[], ◌∷◌, Result}
use Rattle.hera_meaning.specs.Worlds.{out}
use Rattle.hera_store.specs.Standing.{database_of}
use Rattle.hera_outcome.specs.declared.answer.Ending.{Ending}
use Rattle.hera_outcome.specs.declared.answer.Stop.{Stop}
use Rattle.hera_outcome.specs.Answers.{number_of, IsFault}
use Rattle.hera_outcome.specs.Outcomes.{carried, broken}
use Rattle.hera_outcome.specs.Passages.{passage}
use Rattle.hera_outcome.specs.Told.{IsToldBehind}
use Rattle.hera_outcome.proofs.Passing.{handed_on}
use Rattle.hera_run.proofs.Read.{read_cut}
use Rattle.hera_run.proofs.Results.{err_is}
use Rattle.hera_guarded.proofs.Broken.{said_whole, said_part, said_fault}
use Rattle.hera_guarded.proofs.folder.break_off.Goals as goal

pub returns-clause-told : goal.returns-clause-told
returns-clause-told g c = said_whole g.W.Output g.W.Outside c.args.outside.now c.say.new.outside c.args.store.now c.args.line.now c.requires.opens _ c.in_ok-say.ensures.said

pub returns-in_err-say-clause-told : goal.returns-in_err-say-clause-told
returns-in_err-say-clause-told g c =
    let stop = c.in_err-say.field-0.0 in
    handed_on (λ (r : Result Ending Stop). IsToldBehind (carried (database_of c.args.store.now) (out c.args.line.now ∷ []) broken) (number_of r) (passage g.W.Output g.W.Outside c.args.outside.now c.say.new.outside)) c.from_residual.result stop c.from_residual.ensures.1
    (said_part g.W.Output g.W.Outside c.args.outside.now c.say.new.outside c.args.store.now c.args.line.now c.requires.opens stop
    (λ told cut. read_cut g.W.Output g.W.Outside g.met.W.Outside.as_read g.met.W.Outside.only_now g.met.W.Outside.counts_now c.args.outside.now c.say.new.outside c.args.store.now _ told (c.requires.opens.stands told) cut) c.in_err-say.ensures.said)

pub returns-in_err-say-clause-fault : goal.returns-in_err-say-clause-fault
returns-in_err-say-clause-fault g c =
    let stop = c.in_err-say.field-0.0 in
    err_is IsFault c.from_residual.result stop c.from_residual.ensures.1 (said_fault g.W.Output g.W.Outside c.args.outside.now c.say.new.outside c.args.store.now c.args.line.now c.requires.opens stop c.in_err-say.ensures.said)
