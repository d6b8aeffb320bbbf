use Rattle.std.proofs.Common.{◌≡◌, ◌∙◌, inr, ℕ, List, Result, map, ap, sym, subst}
use Rattle.hera_meaning.specs.declared.schemas.RelDecl.{RelDecl}
use Rattle.hera_meaning.specs.declared.trees.Program.{Program}
use Rattle.hera_meaning.specs.Plain.{program_of}
use Rattle.hera_meaning.specs.Trees.{Program_tree}
use Rattle.hera_host.specs.Tables.{specs_of}
use Rattle.hera_bind.specs.Having.{AllHas}
use Rattle.rel_pages.specs.Stored.{Stored}
use Rattle.hera_store.specs.Standing.{database_of}
use Rattle.hera_outcome.specs.declared.answer.Ending.{Ending}
use Rattle.hera_outcome.specs.declared.answer.Stop.{Stop}
use Rattle.hera_outcome.specs.declared.answer.Stop.TheVariants.{Memory}
use Rattle.hera_outcome.specs.Answers.{number_of}
use Rattle.hera_outcome.specs.Passages.{passage, start}
use Rattle.hera_outcome.specs.Told.{IsToldBehind, Answered}
use Rattle.hera_outcome.proofs.Passing.{handed_on, given_up_none}
use Rattle.hera_run.specs.Folder.{outcome_from}
use Rattle.hera_run.specs.Opening.{IsReady, IsUnready}
use Rattle.hera_run.proofs.Read.{read_once}
use Rattle.hera_woven.specs.Weaving.{relations_of, all_bound, tasks_of, IsWhole, report_of, WeavesTo}
use Rattle.hera_woven.specs.Binding.{AreSound, HaveRelations, IsUnbound}
use Rattle.hera_woven.proofs.Sessions.{have_bound}
use Rattle.hera_woven.proofs.Answering.{unready_answered, unbound_answered, weave_answered}
use Rattle.hera_woven.proofs.folder.weave_in_folder.Goals as goal

pub weave_bound-requires-clause-sound : goal.weave_bound-requires-clause-sound
weave_bound-requires-clause-sound g c =
    let hosts = specs_of c.args.hosts.now.names in
    subst (λ (l : List Program). AreSound hosts (map program_of l)) (sym c.deref-3.ensures.value) (c.in_ok-programs.ensures.sound hosts c.requires.sound)

pub weave_bound-requires-clause-relations : goal.weave_bound-requires-clause-relations
weave_bound-requires-clause-relations g c =
    let ps = map program_of c.args.programs.items in
    let rels = c.in_ok-store.store.base.catalogue in
    let own : c.catalogue.result.now ≡ rels = c.catalogue.ensures.catalogue ∙ ap (λ (b : Stored). b.catalogue) c.base.ensures.base in
    let bounds : map program_of c.deref-3.result.now ≡ all_bound rels ps = ap (map program_of) c.deref-3.ensures.value ∙ c.in_ok-programs.ensures.bound ∙ ap (λ (rs : List RelDecl). all_bound rs ps) own in
    subst (λ (l : List Program_tree). HaveRelations rels l) (sym bounds) (have_bound rels ps)

pub returns : goal.returns
returns g c =
    let ps = map program_of c.args.programs.items in
    let store = c.in_ok-store.store in
    let db = database_of store in
    let hosts = specs_of c.args.hosts.now.names in
    let v = passage g.W.Output g.W.Outside c.args.outside.now c.open_for.new.outside in
    let own : c.catalogue.result.now ≡ db.catalogue = c.catalogue.ensures.catalogue ∙ ap (λ (b : Stored). b.catalogue) c.base.ensures.base in
    let relations : c.deref-2.result.now ≡ relations_of ps = c.deref-2.ensures.value ∙ c.in_ok-own.ensures ∙ ap (λ (l : List Program). relations_of (map program_of l)) c.deref.ensures.value in
    let bounds : map program_of c.deref-3.result.now ≡ all_bound db.catalogue ps = ap (map program_of) c.deref-3.ensures.value ∙ c.in_ok-programs.ensures.bound ∙ ap (λ (rs : List RelDecl). all_bound rs ps) own in
    record {
      answered = weave_answered g.W.Output g.W.Outside (read_once g.W.Output g.W.Outside g.met.W.Outside.as_read g.met.W.Outside.only_now g.met.W.Outside.counts_now) c.args.hosts.now.names c.args.turns c.args.order ps c.args.outside.now c.open_for.new.outside store
          (subst (λ (rs : List RelDecl). IsReady rs store v) relations c.in_ok-store.ensures.ready) (subst (λ (rs : List RelDecl). AllHas rs (relations_of ps)) own c.in_ok-programs.ensures.has) c.weave_bound.new.outside c.weave_bound.result c.weave_bound.ensures.fault
          (subst (λ (l : List Program_tree). (schedule : List ℕ) → IsWhole (tasks_of c.args.turns l) db.state hosts c.args.order schedule
          → IsToldBehind (outcome_from db store.end (report_of (tasks_of c.args.turns l) db.state schedule hosts)) (number_of c.weave_bound.result) (passage g.W.Output g.W.Outside c.open_for.new.outside c.weave_bound.new.outside)) bounds c.weave_bound.ensures.told);
    }

pub returns-in_err-own : goal.returns-in_err-own
returns-in_err-own g c = record {
  answered = handed_on (λ (r : Result Ending Stop). Answered (WeavesTo c.args.hosts.now.names c.args.turns c.args.order (map program_of c.args.programs.items) (start g.W.Outside c.args.outside.now)) r (passage g.W.Output g.W.Outside c.args.outside.now c.args.outside.now)) c.from_residual.result Memory c.from_residual.ensures.1
      (inr (given_up_none g.W.Output g.W.Outside c.args.outside.now));
}

pub returns-in_err-store : goal.returns-in_err-store
returns-in_err-store g c =
    let ps = map program_of c.args.programs.items in
    let v = passage g.W.Output g.W.Outside c.args.outside.now c.open_for.new.outside in
    let relations : c.deref-2.result.now ≡ relations_of ps = c.deref-2.ensures.value ∙ c.in_ok-own.ensures ∙ ap (λ (l : List Program). relations_of (map program_of l)) c.deref.ensures.value in
    let stop = c.in_err-store.field-0.0 in
    record {
      answered = handed_on (λ (r : Result Ending Stop). Answered (WeavesTo c.args.hosts.now.names c.args.turns c.args.order ps (start g.W.Outside c.args.outside.now)) r v) c.from_residual-in_err-store.result stop c.from_residual-in_err-store.ensures.1
          (unready_answered g.W.Output g.W.Outside (read_once g.W.Output g.W.Outside g.met.W.Outside.as_read g.met.W.Outside.only_now g.met.W.Outside.counts_now) c.args.hosts.now.names c.args.turns c.args.order ps c.args.outside.now c.open_for.new.outside
          stop (subst (λ (rs : List RelDecl). IsUnready rs stop v) relations c.in_err-store.ensures.unready));
    }

pub returns-in_err-programs : goal.returns-in_err-programs
returns-in_err-programs g c =
    let ps = map program_of c.args.programs.items in
    let store = c.in_ok-store.store in
    let v = passage g.W.Output g.W.Outside c.args.outside.now c.open_for.new.outside in
    let own : c.catalogue.result.now ≡ store.base.catalogue = c.catalogue.ensures.catalogue ∙ ap (λ (b : Stored). b.catalogue) c.base.ensures.base in
    let relations : c.deref-2.result.now ≡ relations_of ps = c.deref-2.ensures.value ∙ c.in_ok-own.ensures ∙ ap (λ (l : List Program). relations_of (map program_of l)) c.deref.ensures.value in
    let stop = c.in_err-programs.field-0.0 in
    record {
      answered = handed_on (λ (r : Result Ending Stop). Answered (WeavesTo c.args.hosts.now.names c.args.turns c.args.order ps (start g.W.Outside c.args.outside.now)) r v) c.from_residual-in_err-programs.result stop c.from_residual-in_err-programs.ensures.1
          (unbound_answered g.W.Output g.W.Outside (read_once g.W.Output g.W.Outside g.met.W.Outside.as_read g.met.W.Outside.only_now g.met.W.Outside.counts_now) c.args.hosts.now.names c.args.turns c.args.order ps c.args.outside.now c.open_for.new.outside store
          (subst (λ (rs : List RelDecl). IsReady rs store v) relations c.in_ok-store.ensures.ready) stop (subst (λ (rs : List RelDecl). IsUnbound rs (relations_of ps) stop) own c.in_err-programs.ensures.unbound));
    }
