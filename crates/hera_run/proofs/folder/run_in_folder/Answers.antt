use Rattle.std.proofs.Common.{◌≡◌, ℕ, List, [], ◌∷◌, Result, Err, ap, ◌∙◌, subst, sym}
use borrow.Enum.Total.{pick_at}
use Rattle.hera_meaning.specs.declared.schemas.RelDecl.{RelDecl}
use Rattle.hera_meaning.specs.Plain.{program_of}
use Rattle.hera_meaning.specs.Run.{run_of}
use Rattle.hera_meaning.specs.Trees.{Program_tree}
use Rattle.hera_host.specs.Tables.{specs_of}
use Rattle.hera_meaning.specs.contracts.scalars.Text.{the_field}
use Rattle.hera_rules.specs.Bound.{bound, Differs}
use Rattle.hera_bind.specs.contracts.binding.BindFault.{as_values}
use Rattle.hera_bind.specs.declared.binding.BindFault.{BindFault}
use Rattle.hera_bind.specs.Having.{AllHas}
use Rattle.rel_pages.specs.Stored.{Stored}
use Rattle.hera_store.specs.Standing.{database_of}
use Rattle.hera_outcome.specs.Answers.{number_of}
use Rattle.hera_outcome.specs.Passages.{passage, start}
use Rattle.hera_outcome.specs.Told.{IsToldBehind, Answered}
use Rattle.hera_outcome.specs.declared.answer.Ending.{Ending}
use Rattle.hera_outcome.specs.declared.answer.Stop.{Stop}
use Rattle.hera_outcome.specs.declared.answer.Stop.TheVariants.{Refused}
use Rattle.hera_outcome.specs.declared.refusal.Refusal.TheVariants.{Differing}
use Rattle.hera_outcome.proofs.Passing.{handed_on}
use Rattle.hera_run.specs.Folder.{outcome_from, RunsTo}
use Rattle.hera_run.specs.Opening.{IsReady, IsUnready}
use Rattle.hera_run.proofs.Readied.{unready_answered, memory_answered, differs_answered, run_answered}
use Rattle.hera_run.proofs.Read.{read_once}
use Rattle.hera_run.proofs.folder.run_in_folder.Goals as goal

pub returns-in-Ok : goal.returns-in-Ok
returns-in-Ok g c =
    let p = program_of c.args.program in
    let store = c.in_ok-store.store in
    let db = database_of store in
    let own : c.catalogue.result.now ≡ db.catalogue = c.catalogue.ensures.catalogue ∙ ap (λ (b : Stored). b.catalogue) c.base.ensures.base in
    let same : program_of c.in-Ok.program ≡ bound p db.catalogue = c.in-Ok.ensures.bound ∙ ap (λ (rs : List RelDecl). bound p rs) own in
    let has = subst (λ (rs : List RelDecl). AllHas rs p.relations) own c.in-Ok.ensures.has in
    record {
      answered = run_answered g.W.Output g.W.Outside (read_once g.W.Output g.W.Outside g.met.W.Outside.as_read g.met.W.Outside.only_now g.met.W.Outside.counts_now) c.args.hosts.now.names c.args.turns p c.args.outside.now c.open_for.new.outside store (subst (λ (rs : List RelDecl). IsReady rs store (passage g.W.Output g.W.Outside c.args.outside.now c.open_for.new.outside)) c.deref.ensures.value c.in_ok-store.ensures.ready) c.run_bound.new.outside c.run_bound.result has c.run_bound.ensures.fault
          (subst (λ (x : Program_tree). IsToldBehind (outcome_from db store.end (run_of x db.state (specs_of c.args.hosts.now.names) c.args.turns)) (number_of c.run_bound.result) (passage g.W.Output g.W.Outside c.open_for.new.outside c.run_bound.new.outside)) same c.run_bound.ensures.told);
    }

pub returns-in-Err-Differs : goal.returns-in-Err-Differs
returns-in-Err-Differs g c =
    let p = program_of c.args.program in
    let store = c.in_ok-store.store in
    let name : List ℕ = c.in-Err-Differs.relation in
    let v = passage g.W.Output g.W.Outside c.args.outside.now c.open_for.new.outside in
    let own : c.catalogue.result.now ≡ store.base.catalogue = c.catalogue.ensures.catalogue ∙ ap (λ (b : Stored). b.catalogue) c.base.ensures.base in
    let ready = subst (λ (rs : List RelDecl). IsReady rs store v) c.deref.ensures.value c.in_ok-store.ensures.ready in
    -- the name that is moved out of the fault
    let moved : BindFault → List ℕ = λ f. (pick_at ((the_field ∷ []) ∷ [] ∷ []) 0 (as_values f) (name, tt)).0 in
    let same : moved c.in-Err-Differs.field-0 ≡ name = ap moved c.in-Err-Differs.field-0-is in
    record {
      answered = subst (λ (n : List ℕ). Answered (RunsTo c.args.hosts.now.names c.args.turns p (start g.W.Outside c.args.outside.now)) (Err (Refused (Differing n))) v) (sym same)
          (differs_answered g.W.Output g.W.Outside (read_once g.W.Output g.W.Outside g.met.W.Outside.as_read g.met.W.Outside.only_now g.met.W.Outside.counts_now) c.args.hosts.now.names c.args.turns p c.args.outside.now c.open_for.new.outside store ready name
          (subst (λ (rs : List RelDecl). Differs rs p.relations name) own ((c.bind.ensures.differs name).0 (c.in-Err-Differs.is ∙ ap Err c.in-Err-Differs.field-0-is))));
    }

pub returns : goal.returns
returns g c =
    record { answered = memory_answered g.W.Output g.W.Outside (read_once g.W.Output g.W.Outside g.met.W.Outside.as_read g.met.W.Outside.only_now g.met.W.Outside.counts_now) c.args.hosts.now.names c.args.turns (program_of c.args.program) c.args.outside.now c.open_for.new.outside c.in_ok-store.store (subst (λ (rs : List RelDecl). IsReady rs c.in_ok-store.store (passage g.W.Output g.W.Outside c.args.outside.now c.open_for.new.outside)) c.deref.ensures.value c.in_ok-store.ensures.ready) }

pub returns-in_err-store : goal.returns-in_err-store
returns-in_err-store g c =
    let v = passage g.W.Output g.W.Outside c.args.outside.now c.open_for.new.outside in
    let stop = c.in_err-store.field-0.0 in
    record {
      answered = handed_on (λ (r : Result Ending Stop). Answered (RunsTo c.args.hosts.now.names c.args.turns (program_of c.args.program) (start g.W.Outside c.args.outside.now)) r v) c.from_residual.result stop c.from_residual.ensures.1
          (unready_answered g.W.Output g.W.Outside (read_once g.W.Output g.W.Outside g.met.W.Outside.as_read g.met.W.Outside.only_now g.met.W.Outside.counts_now) c.args.hosts.now.names c.args.turns (program_of c.args.program) c.args.outside.now c.open_for.new.outside stop (subst (λ (rs : List RelDecl). IsUnready rs stop v) c.deref.ensures.value c.in_err-store.ensures.unready));
    }
