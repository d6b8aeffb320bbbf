use Rattle.std.proofs.Common.{ℕ, List, Result, Err, Option, Some, inl, sym, ap, ◌∙◌, subst}
use Rattle.hera_meaning.specs.declared.schemas.RelDecl.{RelDecl}
use Rattle.hera_meaning.specs.Deltas.{State, IsState}
use Rattle.hera_meaning.specs.Plain.{program_of}
use Rattle.hera_meaning.specs.Run.{Report, run_of}
use Rattle.hera_meaning.specs.Worlds.{Event}
use Rattle.hera_host.specs.Tables.{specs_of}
use Rattle.hera_volume.specs.Time.{LeavesOnly}
use Rattle.hera_volume.proofs.Moments.{leaves-weaker}
use Rattle.hera_store.specs.Standing.{Standing, StandsFor, database_of}
use Rattle.hera_guard.specs.Guarded.{refusal_of, guarded, guarded_report}
use Rattle.hera_outcome.specs.declared.answer.Ending.{Ending}
use Rattle.hera_outcome.specs.declared.answer.Stop.{Stop}
use Rattle.hera_outcome.specs.declared.answer.Stop.TheVariants.{Memory}
use Rattle.hera_outcome.specs.Answers.{number_of, number_of_ending, number_of_stop, IsFault}
use Rattle.hera_outcome.specs.Passages.{passage}
use Rattle.hera_outcome.specs.Told.{IsToldBehind}
use Rattle.hera_outcome.specs.Cut.{IsCut}
use Rattle.hera_outcome.proofs.Passing.{handed_on}
use Rattle.hera_run.specs.Fitting.{fitting}
use Rattle.hera_run.proofs.Meaning.{Compiles, stop_is_fault, behind_none, faults_full}
use Rattle.hera_run.proofs.Read.{read_cut, read_none}
use Rattle.hera_run.proofs.Results.{err_is}
use Rattle.hera_guarded.specs.Guarding.{guarded_outcome}
use Rattle.hera_guarded.proofs.Kept.{ready_under}
use Rattle.hera_guarded.proofs.Meaning.{proper_at, cut_of_outcome, whole_over, full_run, never_over_stuck, run_part, run_stop}
use Rattle.hera_guarded.proofs.folder.run_under.Goals as goal

pub run_code-requires-clause-ready : goal.run_code-requires-clause-ready
run_code-requires-clause-ready g c =
    ready_under c.args.rules.hosts.now.names c.args.rules.lines.now c.args.rules.table c.in_ok-kept.kept.levels c.in_ok-kept.kept.store c.args.store c.in_ok-kept.ensures.store c.requires.opens.unclosed c.in_ok-kept.ensures.levelled c.requires.rules c.requires.opens.state c.requires.unbroken

pub run_code-requires-clause-proper : goal.run_code-requires-clause-proper
run_code-requires-clause-proper g c =
    let p = program_of c.args.program.now in
    let names = c.args.rules.hosts.now.names in
    let hosts = specs_of names in
    let s = c.in_ok-kept.kept.store in
    let is = c.in_ok-kept.ensures.store in
    let db = database_of s in
    let refusal : State → Option (List ℕ) = refusal_of names c.args.rules.table s.base.catalogue in
    let means = c.code_does_what_the_program_means.ensures in
    let state : IsState p.relations db.state = subst (λ (x : Standing). IsState p.relations (database_of x).state) (sym is) (subst (λ (rs : List RelDecl). IsState rs (database_of c.args.store).state) (sym c.requires.relations) c.requires.opens.state) in
    let compiles : Compiles p hosts db.state c.args.turns = record { only = means.only p hosts db.state c.args.turns c.requires.sound state; stores = means.stores p hosts db.state c.args.turns c.requires.sound state; prefixes = means.prefixes p hosts db.state c.args.turns c.requires.sound state } in
    proper_at p hosts db s.end c.args.turns compiles refusal c.in_ok-code.code c.deref.result.now s.base.catalogue c.in_ok-code.ensures.code c.deref.ensures.value (ap (λ (x : Standing). x.base.catalogue) is ∙ sym c.requires.relations)

pub ending_under-requires : goal.ending_under-requires
ending_under-requires g c =
    let p = program_of c.args.program.now in
    let names = c.args.rules.hosts.now.names in
    let hosts = specs_of names in
    let s = c.in_ok-kept.kept.store in
    let is = c.in_ok-kept.ensures.store in
    let db = database_of s in
    let refusal : State → Option (List ℕ) = refusal_of names c.args.rules.table s.base.catalogue in
    let means = c.code_does_what_the_program_means.ensures in
    let state : IsState p.relations db.state = subst (λ (x : Standing). IsState p.relations (database_of x).state) (sym is) (subst (λ (rs : List RelDecl). IsState rs (database_of c.args.store).state) (sym c.requires.relations) c.requires.opens.state) in
    let compiles : Compiles p hosts db.state c.args.turns = record { only = means.only p hosts db.state c.args.turns c.requires.sound state; stores = means.stores p hosts db.state c.args.turns c.requires.sound state; prefixes = means.prefixes p hosts db.state c.args.turns c.requires.sound state } in
    record { stuck = λ stuck. never_over_stuck p hosts db s.end c.args.turns compiles refusal c.in_ok-code.code c.deref.result.now _ _ _ c.in_ok-close.close c.in_ok-code.ensures.code c.deref.ensures.value stuck c.in_ok-close.ensures.over }

pub returns-in_err-code-clause-told : goal.returns-in_err-code-clause-told
returns-in_err-code-clause-told g c =
    let a = c.args.outside.now in
    let store = c.args.store in
    let names = c.args.rules.hosts.now.names in
    let report : Report = run_of (program_of c.args.program.now) (database_of store).state (specs_of names) c.args.turns in
    let ours = guarded_outcome (database_of store) store.end (guarded_report (refusal_of names c.args.rules.table store.base.catalogue) report) in
    handed_on (λ (r : Result Ending Stop). IsToldBehind ours (number_of r) (passage g.W.Output g.W.Outside a a)) c.from_residual.result Memory c.from_residual.ensures.1
    (behind_none g.W.Output g.W.Outside a (database_of store) _ _ (λ told. read_none g.W.Output g.W.Outside g.met.W.Outside.as_read g.met.W.Outside.only_now g.met.W.Outside.counts_now a store _ told (c.requires.opens.stands told)))

pub returns-in_err-code-clause-fault : goal.returns-in_err-code-clause-fault
returns-in_err-code-clause-fault g c = err_is IsFault c.from_residual.result Memory c.from_residual.ensures.1 tt

pub returns-in_err-kept-clause-told : goal.returns-in_err-kept-clause-told
returns-in_err-kept-clause-told g c =
    let a = c.args.outside.now in
    let store = c.args.store in
    let names = c.args.rules.hosts.now.names in
    let report : Report = run_of (program_of c.args.program.now) (database_of store).state (specs_of names) c.args.turns in
    let ours = guarded_outcome (database_of store) store.end (guarded_report (refusal_of names c.args.rules.table store.base.catalogue) report) in
    handed_on (λ (r : Result Ending Stop). IsToldBehind ours (number_of r) (passage g.W.Output g.W.Outside a a)) c.from_residual-in_err-kept.result Memory c.from_residual-in_err-kept.ensures.1
    (behind_none g.W.Output g.W.Outside a (database_of store) _ _ (λ told. read_none g.W.Output g.W.Outside g.met.W.Outside.as_read g.met.W.Outside.only_now g.met.W.Outside.counts_now a store _ told (c.requires.opens.stands told)))

pub returns-in_err-kept-clause-fault : goal.returns-in_err-kept-clause-fault
returns-in_err-kept-clause-fault g c = err_is IsFault c.from_residual-in_err-kept.result Memory c.from_residual-in_err-kept.ensures.1 tt

pub returns-clause-told : goal.returns-clause-told
returns-clause-told g c =
    let p = program_of c.args.program.now in
    let names = c.args.rules.hosts.now.names in
    let hosts = specs_of names in
    let s = c.in_ok-kept.kept.store in
    let is = c.in_ok-kept.ensures.store in
    let db = database_of s in
    let refusal : State → Option (List ℕ) = refusal_of names c.args.rules.table s.base.catalogue in
    let means = c.code_does_what_the_program_means.ensures in
    let state : IsState p.relations db.state = subst (λ (x : Standing). IsState p.relations (database_of x).state) (sym is) (subst (λ (rs : List RelDecl). IsState rs (database_of c.args.store).state) (sym c.requires.relations) c.requires.opens.state) in
    let compiles : Compiles p hosts db.state c.args.turns = record { only = means.only p hosts db.state c.args.turns c.requires.sound state; stores = means.stores p hosts db.state c.args.turns c.requires.sound state; prefixes = means.prefixes p hosts db.state c.args.turns c.requires.sound state } in
    let v = passage g.W.Output g.W.Outside c.args.outside.now c.run_code.new.outside in
    let now = c.run_code.new.keeper.kept.store in
    subst (λ (x : Standing). IsToldBehind (guarded_outcome (database_of x) x.end (guarded_report (refusal_of names c.args.rules.table x.base.catalogue) (run_of p (database_of x).state hosts c.args.turns))) (number_of_ending c.ending_under.result) v) is (record {
      ending = inl (whole_over p hosts db s.end c.args.turns compiles refusal c.in_ok-code.code c.deref.result.now _ v now c.in_ok-close.close c.in_ok-code.ensures.code c.deref.ensures.value c.ending_under.ensures.ends c.ending_under.ensures.refused c.in_ok-close.ensures.over c.in_ok-close.ensures.stands c.in_ok-close.ensures.faults);
      moments = λ told. leaves-weaker _ _ (c.run_code.ensures.any_moment told) (λ image cut. cut_of_outcome p hosts db s.end c.args.turns compiles refusal c.in_ok-code.code c.deref.result.now (g.W.Output.emitted c.args.outside.now) image c.in_ok-code.ensures.code c.deref.ensures.value cut);
    })

pub returns-in_err-close-clause-told : goal.returns-in_err-close-clause-told
returns-in_err-close-clause-told g c =
    let p = program_of c.args.program.now in
    let names = c.args.rules.hosts.now.names in
    let hosts = specs_of names in
    let s = c.in_ok-kept.kept.store in
    let is = c.in_ok-kept.ensures.store in
    let db = database_of s in
    let refusal : State → Option (List ℕ) = refusal_of names c.args.rules.table s.base.catalogue in
    let means = c.code_does_what_the_program_means.ensures in
    let state : IsState p.relations db.state = subst (λ (x : Standing). IsState p.relations (database_of x).state) (sym is) (subst (λ (rs : List RelDecl). IsState rs (database_of c.args.store).state) (sym c.requires.relations) c.requires.opens.state) in
    let compiles : Compiles p hosts db.state c.args.turns = record { only = means.only p hosts db.state c.args.turns c.requires.sound state; stores = means.stores p hosts db.state c.args.turns c.requires.sound state; prefixes = means.prefixes p hosts db.state c.args.turns c.requires.sound state } in
    let v = passage g.W.Output g.W.Outside c.args.outside.now c.run_code.new.outside in
    let now = c.run_code.new.keeper.kept.store in
    let events : List Event = fitting (Some s.end) (guarded refusal (run_of p db.state hosts c.args.turns).events) in
    let start = g.W.Output.emitted c.args.outside.now in
    let moments : g.W.Outside.told → LeavesOnly g.W.Outside.moment g.W.Outside.left_since c.args.outside.now c.run_code.new.outside (IsCut events db start) = λ told.
    leaves-weaker _ _ (c.run_code.ensures.any_moment told) (λ image cut. cut_of_outcome p hosts db s.end c.args.turns compiles refusal c.in_ok-code.code c.deref.result.now start image c.in_ok-code.ensures.code c.deref.ensures.value cut) in
    let stands : g.W.Outside.told → StandsFor (g.W.Outside.disk c.args.outside.now) s = λ told. subst (λ (x : Standing). StandsFor (g.W.Outside.disk c.args.outside.now) x) (sym is) (c.requires.opens.stands told) in
    let stop = c.in_err-close.field-0.0 in
    handed_on (λ (r : Result Ending Stop). IsToldBehind (guarded_outcome (database_of c.args.store) c.args.store.end (guarded_report (refusal_of names c.args.rules.table c.args.store.base.catalogue) (run_of p (database_of c.args.store).state hosts c.args.turns))) (number_of r) v) c.from_residual-in_err-close.result stop c.from_residual-in_err-close.ensures.1
    (subst (λ (x : Standing). IsToldBehind (guarded_outcome (database_of x) x.end (guarded_report (refusal_of names c.args.rules.table x.base.catalogue) (run_of p (database_of x).state hosts c.args.turns))) (number_of_stop stop) v) is (record {
      ending = run_stop p hosts db s.end c.args.turns compiles refusal stop v c.in_err-close.ensures.faults (run_part p hosts db s.end c.args.turns compiles refusal c.in_ok-code.code c.deref.result.now _ _ c.in_ok-code.ensures.code c.deref.ensures.value c.in_err-close.ensures.cut)
          (λ told. read_cut g.W.Output g.W.Outside g.met.W.Outside.as_read g.met.W.Outside.only_now g.met.W.Outside.counts_now c.args.outside.now c.run_code.new.outside s events told (stands told) (moments told))
          (λ full. full_run p hosts db s.end c.args.turns compiles refusal c.in_ok-code.code c.deref.result.now v now c.in_ok-code.ensures.code c.deref.ensures.value (c.in_err-close.ensures.full (ap Err full)) (λ told. c.in_err-close.ensures.full_stands told (ap Err full)) (faults_full stop v full c.in_err-close.ensures.faults));
      moments = moments;
    }))

pub returns-in_err-close-clause-fault : goal.returns-in_err-close-clause-fault
returns-in_err-close-clause-fault g c =
    let stop = c.in_err-close.field-0.0 in
    err_is IsFault c.from_residual-in_err-close.result stop c.from_residual-in_err-close.ensures.1
    (stop_is_fault stop (passage g.W.Output g.W.Outside c.args.outside.now c.run_code.new.outside) c.in_err-close.ensures.faults)
