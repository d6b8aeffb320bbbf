use Rattle.std.proofs.Common.{◌≡◌, List, Result, Err, ap, ◌∙◌, subst, sym}
use Rattle.hera_meaning.specs.declared.schemas.RelDecl.{RelDecl}
use Rattle.hera_meaning.specs.Plain.{program_of}
use Rattle.hera_meaning.specs.Trees.{Program_tree}
use Rattle.hera_rules.specs.Bound.{bound}
use Rattle.hera_bind.specs.Having.{AllHas}
use Rattle.hera_bind.proofs.Found.{all_no_difference}
use Rattle.rel_pages.specs.Stored.{Stored}
use Rattle.hera_store.specs.Standing.{database_of}
use Rattle.hera_guard.specs.Guarded.{guarded_of}
use Rattle.hera_outcome.specs.declared.answer.Ending.{Ending}
use Rattle.hera_outcome.specs.declared.answer.Stop.{Stop}
use Rattle.hera_outcome.specs.Answers.{number_of}
use Rattle.hera_outcome.specs.Passages.{passage, start}
use Rattle.hera_outcome.specs.Told.{IsToldBehind, Answered}
use Rattle.hera_outcome.proofs.Passing.{handed_on}
use Rattle.hera_run.proofs.Read.{read_once}
use Rattle.hera_guarded.specs.Guarding.{guarded_outcome, GuardsTo}
use Rattle.hera_guarded.specs.Opening.{IsReadyUnder, IsUnreadyUnder}
use Rattle.hera_guarded.proofs.Readied.{unready_answered, memory_answered, run_answered}
use Rattle.hera_guarded.proofs.folder.guard_in_folder.Goals as goal

pub returns-in-Ok : goal.returns-in-Ok
returns-in-Ok g c =
    let p = program_of c.args.program in
    let names = c.args.hosts.now.names in
    let lines = c.args.lines.now in
    let store = c.in_ok-store.store in
    let guards = c.in_ok-store.table in
    let db = database_of store in
    let v = passage g.W.Output g.W.Outside c.args.outside.now c.open_under.new.outside in
    let own : c.catalogue.result.now ≡ db.catalogue = c.catalogue.ensures.catalogue ∙ ap (λ (b : Stored). b.catalogue) c.base.ensures.base in
    let same : program_of c.in-Ok.program ≡ bound p db.catalogue = c.in-Ok.ensures.bound ∙ ap (λ (rs : List RelDecl). bound p rs) own in
    record {
      answered = run_answered g.W.Output g.W.Outside names lines (read_once g.W.Output g.W.Outside g.met.W.Outside.as_read g.met.W.Outside.only_now g.met.W.Outside.counts_now) c.args.turns p c.args.outside.now c.open_under.new.outside store guards
          (subst (λ (rs : List RelDecl). IsReadyUnder names lines rs store guards v) c.deref.ensures.value c.in_ok-store.ensures.ready) c.guard_bound.new.outside c.guard_bound.result c.guard_bound.ensures.fault
          (subst (λ (x : Program_tree). IsToldBehind (guarded_outcome db store.end (guarded_of x db.state names c.args.turns guards)) (number_of c.guard_bound.result) (passage g.W.Output g.W.Outside c.open_under.new.outside c.guard_bound.new.outside)) same c.guard_bound.ensures.told);
    }

pub unreachable-requires : goal.unreachable-requires
unreachable-requires g c =
    let p = program_of c.args.program in
    let store = c.in_ok-store.store in
    let own : c.catalogue.result.now ≡ store.base.catalogue = c.catalogue.ensures.catalogue ∙ ap (λ (b : Stored). b.catalogue) c.base.ensures.base in
    let has : AllHas store.base.catalogue p.relations = subst (λ (rs : List RelDecl). AllHas store.base.catalogue rs) c.deref.ensures.value c.in_ok-store.ensures.ready.has in
    all_no_difference c.catalogue.result.now p.relations _ (subst (λ (rs : List RelDecl). AllHas rs p.relations) (sym own) has) ((c.bind.ensures.differs _).0 (c.in-Err-Differs.is ∙ ap Err c.in-Err-Differs.field-0-is))

pub returns-in-Err-Memory : goal.returns-in-Err-Memory
returns-in-Err-Memory g c =
    let names = c.args.hosts.now.names in
    let lines = c.args.lines.now in
    record {
      answered = memory_answered g.W.Output g.W.Outside names lines (read_once g.W.Output g.W.Outside g.met.W.Outside.as_read g.met.W.Outside.only_now g.met.W.Outside.counts_now) c.args.turns (program_of c.args.program) c.args.outside.now c.open_under.new.outside c.in_ok-store.store c.in_ok-store.table
          (subst (λ (rs : List RelDecl). IsReadyUnder names lines rs c.in_ok-store.store c.in_ok-store.table (passage g.W.Output g.W.Outside c.args.outside.now c.open_under.new.outside)) c.deref.ensures.value c.in_ok-store.ensures.ready);
    }

pub returns-in_err-store : goal.returns-in_err-store
returns-in_err-store g c =
    let names = c.args.hosts.now.names in
    let lines = c.args.lines.now in
    let a = c.args.outside.now in
    let v = passage g.W.Output g.W.Outside a c.open_under.new.outside in
    let stop = c.in_err-store.field-0.0 in
    record {
      answered = handed_on (λ (r : Result Ending Stop). Answered (GuardsTo names lines c.args.turns (program_of c.args.program) (start g.W.Outside a)) r v) c.from_residual.result stop c.from_residual.ensures.1
          (unready_answered g.W.Output g.W.Outside names lines (read_once g.W.Output g.W.Outside g.met.W.Outside.as_read g.met.W.Outside.only_now g.met.W.Outside.counts_now) c.args.turns (program_of c.args.program) a c.open_under.new.outside stop
          (subst (λ (rs : List RelDecl). IsUnreadyUnder names lines rs stop v) c.deref.ensures.value c.in_err-store.ensures.unready));
    }
