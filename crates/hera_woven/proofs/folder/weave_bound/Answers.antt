use Rattle.std.proofs.Common.{ℕ, List, Result, Some, map, sym, subst}
use Rattle.hera_meaning.specs.Plain.{program_of}
use Rattle.hera_host.specs.Tables.{specs_of}
use Rattle.hera_sessions.specs.Weaving.{weave_of}
use Rattle.hera_store.specs.Standing.{Standing, StandsFor, database_of}
use Rattle.hera_outcome.specs.declared.answer.Ending.{Ending}
use Rattle.hera_outcome.specs.declared.answer.Stop.{Stop}
use Rattle.hera_outcome.specs.declared.answer.Stop.TheVariants.{Memory}
use Rattle.hera_outcome.specs.Answers.{number_of, number_of_stop, IsFault}
use Rattle.hera_outcome.specs.Passages.{passage}
use Rattle.hera_outcome.specs.Told.{IsToldBehind}
use Rattle.hera_outcome.proofs.Passing.{handed_on}
use Rattle.hera_run.specs.Fitting.{fitting}
use Rattle.hera_run.specs.Folder.{outcome_from}
use Rattle.hera_run.proofs.Meaning.{behind_none, stop_is_fault}
use Rattle.hera_run.proofs.Read.{read_cut, read_none}
use Rattle.hera_run.proofs.Results.{err_is}
use Rattle.hera_woven.specs.Weaving.{tasks_of, IsWhole, report_of}
use Rattle.hera_woven.proofs.Telling.{woven_told, held_moments, held_told}
use Rattle.hera_woven.proofs.folder.weave_bound.Goals as goal

pub returns-in_err-codes-clause-told : goal.returns-in_err-codes-clause-told
returns-in_err-codes-clause-told g c = λ schedule whole.
    let a = c.args.outside.now in
    let store = c.args.store in
    let ours = outcome_from (database_of store) store.end (report_of (tasks_of c.args.turns (map program_of c.args.programs.now)) (database_of store).state schedule (specs_of c.args.hosts.now.names)) in
    handed_on (λ (r : Result Ending Stop). IsToldBehind ours (number_of r) (passage g.W.Output g.W.Outside a a)) c.from_residual.result Memory c.from_residual.ensures.1
    (behind_none g.W.Output g.W.Outside a (database_of store) _ _ (λ told. read_none g.W.Output g.W.Outside g.met.W.Outside.as_read g.met.W.Outside.only_now g.met.W.Outside.counts_now a store _ told (c.requires.opens.stands told)))

pub returns-in_err-codes-clause-fault : goal.returns-in_err-codes-clause-fault
returns-in_err-codes-clause-fault g c = err_is IsFault c.from_residual.result Memory c.from_residual.ensures.1 tt

pub returns-in_err-folder-clause-told : goal.returns-in_err-folder-clause-told
returns-in_err-folder-clause-told g c = λ schedule whole.
    let a = c.args.outside.now in
    let store = c.args.store in
    let ours = outcome_from (database_of store) store.end (report_of (tasks_of c.args.turns (map program_of c.args.programs.now)) (database_of store).state schedule (specs_of c.args.hosts.now.names)) in
    handed_on (λ (r : Result Ending Stop). IsToldBehind ours (number_of r) (passage g.W.Output g.W.Outside a a)) c.from_residual-in_err-folder.result Memory c.from_residual-in_err-folder.ensures.1
    (behind_none g.W.Output g.W.Outside a (database_of store) _ _ (λ told. read_none g.W.Output g.W.Outside g.met.W.Outside.as_read g.met.W.Outside.only_now g.met.W.Outside.counts_now a store _ told (c.requires.opens.stands told)))

pub returns-in_err-folder-clause-fault : goal.returns-in_err-folder-clause-fault
returns-in_err-folder-clause-fault g c = err_is IsFault c.from_residual-in_err-folder.result Memory c.from_residual-in_err-folder.ensures.1 tt

pub returns-clause-told : goal.returns-clause-told
returns-clause-told g c =
    let hosts = specs_of c.args.hosts.now.names in
    let tasks = tasks_of c.args.turns (map program_of c.args.programs.now) in
    let v = passage g.W.Output g.W.Outside c.args.outside.now c.weave_coded.new.outside in
    subst (λ (x : Standing). (schedule : List ℕ) → IsWhole tasks (database_of x).state hosts c.args.order schedule → IsToldBehind (outcome_from (database_of x) x.end (report_of tasks (database_of x).state schedule hosts)) 0 v) c.in_ok-folder.ensures.store
    (λ schedule whole. woven_told hosts tasks c.args.order c.in_ok-folder.folder.store schedule whole c.weave_coded.new.folder.store v c.in_ok-weave_coded.ensures.woven)

pub returns-in_err-weave_coded-clause-told : goal.returns-in_err-weave_coded-clause-told
returns-in_err-weave_coded-clause-told g c =
    let hosts = specs_of c.args.hosts.now.names in
    let tasks = tasks_of c.args.turns (map program_of c.args.programs.now) in
    let s = c.in_ok-folder.folder.store in
    let is = c.in_ok-folder.ensures.store in
    let a = c.args.outside.now in
    let b = c.weave_coded.new.outside in
    let now = c.weave_coded.new.folder.store in
    let v = passage g.W.Output g.W.Outside a b in
    let stands : g.W.Outside.told → StandsFor (g.W.Outside.disk a) s = λ told. subst (λ (x : Standing). StandsFor (g.W.Outside.disk a) x) (sym is) (c.requires.opens.stands told) in
    let stop = c.in_err-weave_coded.field-0.0 in
    handed_on (λ (r : Result Ending Stop). (schedule : List ℕ) → IsWhole tasks (database_of c.args.store).state hosts c.args.order schedule → IsToldBehind (outcome_from (database_of c.args.store) c.args.store.end (report_of tasks (database_of c.args.store).state schedule hosts)) (number_of r) v) c.from_residual-in_err-weave_coded.result stop c.from_residual-in_err-weave_coded.ensures.1
    (subst (λ (x : Standing). (schedule : List ℕ) → IsWhole tasks (database_of x).state hosts c.args.order schedule → IsToldBehind (outcome_from (database_of x) x.end (report_of tasks (database_of x).state schedule hosts)) (number_of_stop stop) v) is
    (λ schedule whole. held_told hosts tasks c.args.order s schedule whole g.W.Output g.W.Outside a b now stop c.in_err-weave_coded.ensures.held_up
    (λ told. read_cut g.W.Output g.W.Outside g.met.W.Outside.as_read g.met.W.Outside.only_now g.met.W.Outside.counts_now a b s (fitting (Some s.end) (weave_of tasks (database_of s).state schedule hosts)) told (stands told)
    (held_moments hosts tasks c.args.order s schedule whole g.W.Output g.W.Outside a b now stop c.in_err-weave_coded.ensures.held_up told))))

pub returns-in_err-weave_coded-clause-fault : goal.returns-in_err-weave_coded-clause-fault
returns-in_err-weave_coded-clause-fault g c = err_is IsFault c.from_residual-in_err-weave_coded.result c.in_err-weave_coded.field-0.0 c.from_residual-in_err-weave_coded.ensures.1
    (stop_is_fault c.in_err-weave_coded.field-0.0 (passage g.W.Output g.W.Outside c.args.outside.now c.weave_coded.new.outside) c.in_err-weave_coded.ensures.held_up.faults)
