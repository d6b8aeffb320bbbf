use Rattle.std.proofs.Common.{◌∙◌, List, sym, ap, Err, inl, inr, subst}
use Rattle.hera_code.specs.declared.instrs.Code.{Code}
use Rattle.hera_code.specs.Reached.{code_at}
use Rattle.hera_codegen.specs.Correct.{AreStoresOf, events_in}
use Rattle.hera_host.specs.Tables.{specs_of}
use Rattle.hera_meaning.specs.declared.schemas.RelDecl.{RelDecl}
use Rattle.hera_meaning.specs.Catalogues.{IsCatalogue}
use Rattle.hera_meaning.specs.Run.{Report}
use Rattle.rel_pages.specs.Stored.{empty_state}
use Rattle.rel_pages.proofs.States.{empty_is_state}
use Rattle.hera_outcome.specs.Outcomes.{ran}
use Rattle.hera_outcome.specs.Passages.{passage}
use Rattle.hera_outcome.proofs.Passing.{keeps_none, pending_none, given_up_none, answered_by, spoken_fault, spoken_no_device}
use Rattle.hera_packed.specs.Executed.{RunsAs, is_bad, is_rejected, is_run}
use Rattle.hera_run.proofs.Meaning.{own}
use Rattle.hera_top.proofs.coding.execute.Goals as goal

pub run-requires-clause-catalogue : goal.run-requires-clause-catalogue
run-requires-clause-catalogue g c = subst IsCatalogue (sym c.deref.ensures.value) c.in-Ok.ensures.catalogue

pub run-requires-clause-forward : goal.run-requires-clause-forward
run-requires-clause-forward g c =
    let rels = c.in-Ok.file.relations.items in
    (c.in-Ok.ensures.safe (empty_state rels) c.args.turns (empty_is_state rels)).forward

pub run-requires-clause-stores : goal.run-requires-clause-stores
run-requires-clause-stores g c =
    let rels = c.in-Ok.file.relations.items in
    let hosts = specs_of c.args.hosts.now.names in
    λ k. subst (λ (rs : List RelDecl). AreStoresOf rs (events_in (code_at c.in-Ok.file.code rs (empty_state rs) hosts c.args.turns k))) (sym c.deref.ensures.value)
    ((c.in-Ok.ensures.safe (empty_state rels) c.args.turns (empty_is_state rels)).stores k)

pub run-requires-clause-over : goal.run-requires-clause-over
run-requires-clause-over g c =
    let rels = c.in-Ok.file.relations.items in
    let hosts = specs_of c.args.hosts.now.names in
    let safe = c.in-Ok.ensures.safe (empty_state rels) c.args.turns (empty_is_state rels) in
    let report : Report = record { events = safe.events; finish = safe.finish } in
    (report, subst (λ (rs : List RelDecl). RunsAs c.in-Ok.file.code rs hosts c.args.turns report) (sym c.deref.ensures.value) safe.over_is)

pub returns-in-Ok-clause-answered : goal.returns-in-Ok-clause-answered
returns-in-Ok-clause-answered g c =
    let rels = c.in-Ok.file.relations.items in
    let hosts = specs_of c.args.hosts.now.names in
    let safe = c.in-Ok.ensures.safe (empty_state rels) c.args.turns (empty_is_state rels) in
    let report : Report = record { events = safe.events; finish = safe.finish } in
    let runs : RunsAs c.in-Ok.file.code c.deref.result.now hosts c.args.turns report = subst (λ (rs : List RelDecl). RunsAs c.in-Ok.file.code rs hosts c.args.turns report) (sym c.deref.ensures.value) safe.over_is in
    let opened = c.in-Ok.ensures.opened in
    let told = own (λ (x : Code) (rs : List RelDecl). RunsAs x rs hosts c.args.turns report) c.in-Ok.file.code _ rels opened.file.relations (sym opened.code_is) (sym opened.relations) safe.over_is in
    answered_by _ c.run.result (passage g.W.Output g.W.Outside c.args.outside.now c.run.new.outside) (spoken_fault c.run.result c.run.ensures.spoken)
    (inl (ran report, is_run opened.is opened.verified told, c.run.ensures.told report runs))

pub returns-in-Ok-clause-apart : goal.returns-in-Ok-clause-apart
returns-in-Ok-clause-apart g c = record { keeps = c.run.ensures.keeps; no_device = spoken_no_device c.run.result c.run.ensures.spoken }

pub returns-in-Err-BadCode-clause-answered : goal.returns-in-Err-BadCode-clause-answered
returns-in-Err-BadCode-clause-answered g c =
    rw c.in-Err-BadCode.field-0-is (is_bad (c.open_code.ensures.bad c.in-Err-BadCode.at (c.in-Err-BadCode.is ∙ ap Err c.in-Err-BadCode.field-0-is)), pending_none g.W.Output g.W.Outside c.args.outside.now)

pub returns-in-Err-BadCode-clause-apart : goal.returns-in-Err-BadCode-clause-apart
returns-in-Err-BadCode-clause-apart g c = record { keeps = keeps_none g.W.Output g.W.Outside c.args.outside.now; no_device = λ h. cc (h) }

pub returns-in-Err-Rejected-clause-answered : goal.returns-in-Err-Rejected-clause-answered
returns-in-Err-Rejected-clause-answered g c =
    let (file, is, bad) = c.open_code.ensures.rejected c.in-Err-Rejected.at (c.in-Err-Rejected.is ∙ ap Err c.in-Err-Rejected.field-0-is) in
    rw c.in-Err-Rejected.field-0-is (is_rejected {file = file} is bad, pending_none g.W.Output g.W.Outside c.args.outside.now)

pub returns-in-Err-Rejected-clause-apart : goal.returns-in-Err-Rejected-clause-apart
returns-in-Err-Rejected-clause-apart g c = record { keeps = keeps_none g.W.Output g.W.Outside c.args.outside.now; no_device = λ h. cc (h) }

pub returns-in-Err-Memory-clause-answered : goal.returns-in-Err-Memory-clause-answered
returns-in-Err-Memory-clause-answered g c = inr (given_up_none g.W.Output g.W.Outside c.args.outside.now)

pub returns-in-Err-Memory-clause-apart : goal.returns-in-Err-Memory-clause-apart
returns-in-Err-Memory-clause-apart g c = record { keeps = keeps_none g.W.Output g.W.Outside c.args.outside.now; no_device = λ h. cc (h) }
