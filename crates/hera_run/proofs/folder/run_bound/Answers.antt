use Rattle.std.proofs.Common.{List, Result, Err, Some, inl, sym, ap, ◌∙◌, subst}
use Rattle.hera_meaning.specs.declared.schemas.RelDecl.{RelDecl}
use Rattle.hera_meaning.specs.Deltas.{IsState}
use Rattle.hera_meaning.specs.Plain.{program_of}
use Rattle.hera_meaning.specs.Run.{run_of}
use Rattle.hera_host.specs.Tables.{specs_of}
use Rattle.hera_volume.specs.Time.{LeavesOnly}
use Rattle.hera_volume.proofs.Moments.{leaves-weaker}
use Rattle.hera_store.specs.Standing.{Standing, StandsFor, database_of}
use Rattle.hera_outcome.specs.declared.answer.Ending.{Ending}
use Rattle.hera_outcome.specs.declared.answer.Stop.{Stop}
use Rattle.hera_outcome.specs.declared.answer.Stop.TheVariants.{Memory}
use Rattle.hera_outcome.specs.Answers.{number_of, number_of_ending, number_of_stop, IsFault}
use Rattle.hera_outcome.specs.Passages.{passage}
use Rattle.hera_outcome.specs.Told.{IsToldBehind}
use Rattle.hera_outcome.specs.Cut.{IsCut}
use Rattle.hera_outcome.proofs.Passing.{handed_on}
use Rattle.hera_run.specs.Fitting.{fitting}
use Rattle.hera_run.specs.Folder.{outcome_from}
use Rattle.hera_run.proofs.Meaning.{Compiles, proper_at, cut_of_outcome, whole_over, full_run, never_over_stuck, never_over_refused, run_part, run_stop, stop_is_fault, behind_none, faults_full}
use Rattle.hera_run.proofs.Read.{read_cut, read_none}
use Rattle.hera_run.proofs.Results.{err_is}
use Rattle.hera_run.proofs.folder.run_bound.Goals as goal

pub run_code-requires-clause-proper : goal.run_code-requires-clause-proper
run_code-requires-clause-proper g c =
    let p = program_of c.args.program.now in
    let hosts = specs_of c.args.hosts.now.names in
    let s = c.in_ok-keeper.keeper.store in
    let is = c.in_ok-keeper.ensures.store in
    let db = database_of s in
    let means = c.code_does_what_the_program_means.ensures in
    let state : IsState p.relations db.state = subst (λ (x : Standing). IsState p.relations (database_of x).state) (sym is) (subst (λ (rs : List RelDecl). IsState rs (database_of c.args.store).state) (sym c.requires.relations) c.requires.opens.state) in
    let compiles : Compiles p hosts db.state c.args.turns = record { only = means.only p hosts db.state c.args.turns c.requires.sound state; stores = means.stores p hosts db.state c.args.turns c.requires.sound state; prefixes = means.prefixes p hosts db.state c.args.turns c.requires.sound state } in
    proper_at p hosts db s.end c.args.turns compiles c.in_ok-code.code c.deref.result.now s.base.catalogue c.in_ok-code.ensures.code c.deref.ensures.value (ap (λ (x : Standing). x.base.catalogue) is ∙ sym c.requires.relations)

pub ending_of-requires-clause-refused : goal.ending_of-requires-clause-refused
ending_of-requires-clause-refused g c =
    let p = program_of c.args.program.now in
    let hosts = specs_of c.args.hosts.now.names in
    let s = c.in_ok-keeper.keeper.store in
    let is = c.in_ok-keeper.ensures.store in
    let db = database_of s in
    let means = c.code_does_what_the_program_means.ensures in
    let state : IsState p.relations db.state = subst (λ (x : Standing). IsState p.relations (database_of x).state) (sym is) (subst (λ (rs : List RelDecl). IsState rs (database_of c.args.store).state) (sym c.requires.relations) c.requires.opens.state) in
    let compiles : Compiles p hosts db.state c.args.turns = record { only = means.only p hosts db.state c.args.turns c.requires.sound state; stores = means.stores p hosts db.state c.args.turns c.requires.sound state; prefixes = means.prefixes p hosts db.state c.args.turns c.requires.sound state } in
    λ refused. never_over_refused p hosts db s.end c.args.turns compiles c.in_ok-code.code c.deref.result.now _ _ _ c.in_ok-close.close refused c.in_ok-close.ensures.over

pub ending_of-requires-clause-stuck : goal.ending_of-requires-clause-stuck
ending_of-requires-clause-stuck g c =
    let p = program_of c.args.program.now in
    let hosts = specs_of c.args.hosts.now.names in
    let s = c.in_ok-keeper.keeper.store in
    let is = c.in_ok-keeper.ensures.store in
    let db = database_of s in
    let means = c.code_does_what_the_program_means.ensures in
    let state : IsState p.relations db.state = subst (λ (x : Standing). IsState p.relations (database_of x).state) (sym is) (subst (λ (rs : List RelDecl). IsState rs (database_of c.args.store).state) (sym c.requires.relations) c.requires.opens.state) in
    let compiles : Compiles p hosts db.state c.args.turns = record { only = means.only p hosts db.state c.args.turns c.requires.sound state; stores = means.stores p hosts db.state c.args.turns c.requires.sound state; prefixes = means.prefixes p hosts db.state c.args.turns c.requires.sound state } in
    λ stuck. never_over_stuck p hosts db s.end c.args.turns compiles c.in_ok-code.code c.deref.result.now _ _ _ c.in_ok-close.close c.in_ok-code.ensures.code c.deref.ensures.value stuck c.in_ok-close.ensures.over

pub returns-in_err-code-clause-told : goal.returns-in_err-code-clause-told
returns-in_err-code-clause-told g c =
    let a = c.args.outside.now in
    let store = c.args.store in
    let ours = outcome_from (database_of store) store.end (run_of (program_of c.args.program.now) (database_of store).state (specs_of c.args.hosts.now.names) c.args.turns) in
    handed_on (λ (r : Result Ending Stop). IsToldBehind ours (number_of r) (passage g.W.Output g.W.Outside a a)) c.from_residual.result Memory c.from_residual.ensures.1
    (behind_none g.W.Output g.W.Outside a (database_of store) _ _ (λ told. read_none g.W.Output g.W.Outside g.met.W.Outside.as_read g.met.W.Outside.only_now g.met.W.Outside.counts_now a store _ told (c.requires.opens.stands told)))

pub returns-in_err-code-clause-fault : goal.returns-in_err-code-clause-fault
returns-in_err-code-clause-fault g c = err_is IsFault c.from_residual.result Memory c.from_residual.ensures.1 tt

pub returns-in_err-keeper-clause-told : goal.returns-in_err-keeper-clause-told
returns-in_err-keeper-clause-told g c =
    let a = c.args.outside.now in
    let store = c.args.store in
    let ours = outcome_from (database_of store) store.end (run_of (program_of c.args.program.now) (database_of store).state (specs_of c.args.hosts.now.names) c.args.turns) in
    handed_on (λ (r : Result Ending Stop). IsToldBehind ours (number_of r) (passage g.W.Output g.W.Outside a a)) c.from_residual-in_err-keeper.result Memory c.from_residual-in_err-keeper.ensures.1
    (behind_none g.W.Output g.W.Outside a (database_of store) _ _ (λ told. read_none g.W.Output g.W.Outside g.met.W.Outside.as_read g.met.W.Outside.only_now g.met.W.Outside.counts_now a store _ told (c.requires.opens.stands told)))

pub returns-in_err-keeper-clause-fault : goal.returns-in_err-keeper-clause-fault
returns-in_err-keeper-clause-fault g c = err_is IsFault c.from_residual-in_err-keeper.result Memory c.from_residual-in_err-keeper.ensures.1 tt

pub returns-clause-told : goal.returns-clause-told
returns-clause-told g c =
    let p = program_of c.args.program.now in
    let hosts = specs_of c.args.hosts.now.names in
    let s = c.in_ok-keeper.keeper.store in
    let is = c.in_ok-keeper.ensures.store in
    let db = database_of s in
    let means = c.code_does_what_the_program_means.ensures in
    let state : IsState p.relations db.state = subst (λ (x : Standing). IsState p.relations (database_of x).state) (sym is) (subst (λ (rs : List RelDecl). IsState rs (database_of c.args.store).state) (sym c.requires.relations) c.requires.opens.state) in
    let compiles : Compiles p hosts db.state c.args.turns = record { only = means.only p hosts db.state c.args.turns c.requires.sound state; stores = means.stores p hosts db.state c.args.turns c.requires.sound state; prefixes = means.prefixes p hosts db.state c.args.turns c.requires.sound state } in
    let v = passage g.W.Output g.W.Outside c.args.outside.now c.run_code.new.outside in
    let now = c.run_code.new.keeper.store in
    subst (λ (x : Standing). IsToldBehind (outcome_from (database_of x) x.end (run_of p (database_of x).state hosts c.args.turns)) (number_of_ending c.ending_of.result) v) is (record {
      ending = inl (whole_over p hosts db s.end c.args.turns compiles c.in_ok-code.code c.deref.result.now _ v now c.in_ok-close.close c.in_ok-code.ensures.code c.deref.ensures.value c.ending_of.ensures c.in_ok-close.ensures.over c.in_ok-close.ensures.stands c.in_ok-close.ensures.faults);
      moments = λ told. leaves-weaker _ _ (c.run_code.ensures.any_moment told) (λ image cut. cut_of_outcome p hosts db s.end c.args.turns compiles c.in_ok-code.code c.deref.result.now (g.W.Output.emitted c.args.outside.now) image c.in_ok-code.ensures.code c.deref.ensures.value cut);
    })

pub returns-in_err-close-clause-told : goal.returns-in_err-close-clause-told
returns-in_err-close-clause-told g c =
    let p = program_of c.args.program.now in
    let hosts = specs_of c.args.hosts.now.names in
    let s = c.in_ok-keeper.keeper.store in
    let is = c.in_ok-keeper.ensures.store in
    let db = database_of s in
    let means = c.code_does_what_the_program_means.ensures in
    let state : IsState p.relations db.state = subst (λ (x : Standing). IsState p.relations (database_of x).state) (sym is) (subst (λ (rs : List RelDecl). IsState rs (database_of c.args.store).state) (sym c.requires.relations) c.requires.opens.state) in
    let compiles : Compiles p hosts db.state c.args.turns = record { only = means.only p hosts db.state c.args.turns c.requires.sound state; stores = means.stores p hosts db.state c.args.turns c.requires.sound state; prefixes = means.prefixes p hosts db.state c.args.turns c.requires.sound state } in
    let v = passage g.W.Output g.W.Outside c.args.outside.now c.run_code.new.outside in
    let now = c.run_code.new.keeper.store in
    let events = fitting (Some s.end) (run_of p db.state hosts c.args.turns).events in
    let start = g.W.Output.emitted c.args.outside.now in
    let moments : g.W.Outside.told → LeavesOnly g.W.Outside.moment g.W.Outside.left_since c.args.outside.now c.run_code.new.outside (IsCut events db start) = λ told.
    leaves-weaker _ _ (c.run_code.ensures.any_moment told) (λ image cut. cut_of_outcome p hosts db s.end c.args.turns compiles c.in_ok-code.code c.deref.result.now start image c.in_ok-code.ensures.code c.deref.ensures.value cut) in
    let stands : g.W.Outside.told → StandsFor (g.W.Outside.disk c.args.outside.now) s = λ told. subst (λ (x : Standing). StandsFor (g.W.Outside.disk c.args.outside.now) x) (sym is) (c.requires.opens.stands told) in
    let stop = c.in_err-close.field-0.0 in
    handed_on (λ (r : Result Ending Stop). IsToldBehind (outcome_from (database_of c.args.store) c.args.store.end (run_of p (database_of c.args.store).state hosts c.args.turns)) (number_of r) v) c.from_residual-in_err-close.result stop c.from_residual-in_err-close.ensures.1
    (subst (λ (x : Standing). IsToldBehind (outcome_from (database_of x) x.end (run_of p (database_of x).state hosts c.args.turns)) (number_of_stop stop) v) is (record {
      ending = run_stop p hosts db s.end c.args.turns compiles stop v c.in_err-close.ensures.faults (run_part p hosts db s.end c.args.turns compiles c.in_ok-code.code c.deref.result.now _ _ c.in_ok-code.ensures.code c.deref.ensures.value c.in_err-close.ensures.cut)
          (λ told. read_cut g.W.Output g.W.Outside g.met.W.Outside.as_read g.met.W.Outside.only_now g.met.W.Outside.counts_now c.args.outside.now c.run_code.new.outside s events told (stands told) (moments told))
          (λ full. full_run p hosts db s.end c.args.turns compiles c.in_ok-code.code c.deref.result.now v now c.in_ok-code.ensures.code c.deref.ensures.value (c.run_code.ensures.full (c.in_err-close.was ∙ ap Err full)) (λ told. c.run_code.ensures.full_stands told (c.in_err-close.was ∙ ap Err full)) (faults_full stop v full c.in_err-close.ensures.faults));
      moments = moments;
    }))

pub returns-in_err-close-clause-fault : goal.returns-in_err-close-clause-fault
returns-in_err-close-clause-fault g c =
    let stop = c.in_err-close.field-0.0 in
    err_is IsFault c.from_residual-in_err-close.result stop c.from_residual-in_err-close.ensures.1
    (stop_is_fault stop (passage g.W.Output g.W.Outside c.args.outside.now c.run_code.new.outside) c.in_err-close.ensures.faults)
