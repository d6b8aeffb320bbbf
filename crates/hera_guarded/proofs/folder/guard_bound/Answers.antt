use Rattle.std.proofs.Common.{Result}
use Rattle.hera_meaning.specs.Plain.{program_of}
use Rattle.hera_store.specs.Standing.{database_of}
use Rattle.hera_guard.specs.Guarded.{guarded_of}
use Rattle.hera_outcome.specs.declared.answer.Ending.{Ending}
use Rattle.hera_outcome.specs.declared.answer.Stop.{Stop}
use Rattle.hera_outcome.specs.declared.answer.Stop.TheVariants.{Memory}
use Rattle.hera_outcome.specs.Answers.{number_of, IsFault}
use Rattle.hera_outcome.specs.Passages.{passage}
use Rattle.hera_outcome.specs.Told.{IsToldBehind}
use Rattle.hera_outcome.proofs.Passing.{handed_on}
use Rattle.hera_run.proofs.Meaning.{behind_none}
use Rattle.hera_run.proofs.Read.{read_none}
use Rattle.hera_run.proofs.Results.{err_is}
use Rattle.hera_guarded.specs.Guarding.{guarded_outcome}
use Rattle.hera_guarded.proofs.folder.guard_bound.Goals as goal

pub returns-in_err-stored-clause-told : goal.returns-in_err-stored-clause-told
returns-in_err-stored-clause-told g c =
    let a = c.args.outside.now in
    let store = c.args.store in
    let ours = guarded_outcome (database_of store) store.end (guarded_of (program_of c.args.program.now) (database_of store).state c.args.rules.hosts.now.names c.args.turns c.args.rules.table) in
    handed_on (λ (r : Result Ending Stop). IsToldBehind ours (number_of r) (passage g.W.Output g.W.Outside a a)) c.from_residual.result Memory c.from_residual.ensures.1
    (behind_none g.W.Output g.W.Outside a (database_of store) _ _ (λ told. read_none g.W.Output g.W.Outside g.met.W.Outside.as_read g.met.W.Outside.only_now g.met.W.Outside.counts_now a store _ told (c.requires.opens.stands told)))

pub returns-in_err-stored-clause-fault : goal.returns-in_err-stored-clause-fault
returns-in_err-stored-clause-fault g c = err_is IsFault c.from_residual.result Memory c.from_residual.ensures.1 tt
