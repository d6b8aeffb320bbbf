use Rattle.std.proofs.Common.{List, sym, inl, subst}
use Rattle.hera_code.specs.declared.instrs.Code.{Code}
use Rattle.hera_code.specs.Reached.{code_at}
use Rattle.hera_code.specs.Scheme.{code_of}
use Rattle.hera_codegen.specs.Correct.{AreStoresOf, events_in}
use Rattle.hera_host.specs.Tables.{specs_of}
use Rattle.hera_meaning.specs.declared.schemas.RelDecl.{RelDecl}
use Rattle.hera_meaning.specs.Catalogues.{IsCatalogue}
use Rattle.hera_meaning.specs.Plain.{program_of}
use Rattle.hera_meaning.specs.Run.{run_of}
use Rattle.hera_meaning.specs.Worlds.{Event}
use Rattle.rel_pages.specs.Stored.{empty_state}
use Rattle.rel_pages.proofs.States.{empty_is_state}
use Rattle.hera_outcome.specs.Outcomes.{ran}
use Rattle.hera_outcome.specs.Passages.{passage}
use Rattle.hera_outcome.proofs.Passing.{no_memory_answered, answered_by, spoken_fault, spoken_no_device}
use Rattle.hera_packed.specs.Executed.{RunsAs}
use Rattle.hera_run.proofs.Meaning.{own, stores_front}
use Rattle.hera_top.specs.Commands.{evaluates}
use Rattle.hera_top.proofs.Reading.{no_memory_apart}
use Rattle.hera_top.proofs.commands.eval.Goals as goal

pub returns-in_err-code-clause-answered : goal.returns-in_err-code-clause-answered
returns-in_err-code-clause-answered g c = no_memory_answered g.W.Output g.W.Outside c.args.outside.now _ c.from_residual.result c.from_residual.ensures.1

pub returns-in_err-code-clause-apart : goal.returns-in_err-code-clause-apart
returns-in_err-code-clause-apart g c = no_memory_apart g.W.Output g.W.Outside c.args.outside.now c.from_residual.result c.from_residual.ensures.1

pub run-requires-clause-catalogue : goal.run-requires-clause-catalogue
run-requires-clause-catalogue g c = subst IsCatalogue (sym c.deref.ensures.value) c.requires.sound.shaped.relations

pub run-requires-clause-stores : goal.run-requires-clause-stores
run-requires-clause-stores g c =
    let p = program_of c.args.program.now in
    let hosts = specs_of c.args.hosts.now.names in
    let means = c.code_does_what_the_program_means.ensures in
    let state = empty_is_state p.relations in
    λ k.
    let pre = means.prefixes p hosts (empty_state p.relations) c.args.turns c.requires.sound state k in
    let stores = means.stores p hosts (empty_state p.relations) c.args.turns c.requires.sound state in
    let front = events_in (code_at (code_of p) p.relations (empty_state p.relations) hosts c.args.turns k) in
    own (λ (x : Code) (rs : List RelDecl). AreStoresOf rs (events_in (code_at x rs (empty_state rs) hosts c.args.turns k))) (code_of p) c.in_ok-code.code p.relations c.deref.result.now (sym c.in_ok-code.ensures.code) (sym c.deref.ensures.value)
    (stores_front p.relations front pre.rest (subst (λ (es : List Event). AreStoresOf p.relations es) (sym pre.joined) stores))

pub run-requires-clause-over : goal.run-requires-clause-over
run-requires-clause-over g c =
    let p = program_of c.args.program.now in
    let hosts = specs_of c.args.hosts.now.names in
    let report = run_of p (empty_state p.relations) hosts c.args.turns in (
      report,
      own (λ (x : Code) (rs : List RelDecl). RunsAs x rs hosts c.args.turns report) (code_of p) c.in_ok-code.code p.relations c.deref.result.now (sym c.in_ok-code.ensures.code) (sym c.deref.ensures.value)
          (c.code_does_what_the_program_means.ensures.ends p hosts (empty_state p.relations) c.args.turns c.requires.sound (empty_is_state p.relations)),
    )

pub returns-clause-answered : goal.returns-clause-answered
returns-clause-answered g c =
    let p = program_of c.args.program.now in
    let hosts = specs_of c.args.hosts.now.names in
    let report = run_of p (empty_state p.relations) hosts c.args.turns in
    let runs : RunsAs c.in_ok-code.code c.deref.result.now hosts c.args.turns report =
    own (λ (x : Code) (rs : List RelDecl). RunsAs x rs hosts c.args.turns report) (code_of p) c.in_ok-code.code p.relations c.deref.result.now (sym c.in_ok-code.ensures.code) (sym c.deref.ensures.value)
    (c.code_does_what_the_program_means.ensures.ends p hosts (empty_state p.relations) c.args.turns c.requires.sound (empty_is_state p.relations)) in
    answered_by _ c.run.result (passage g.W.Output g.W.Outside c.args.outside.now c.run.new.outside) (spoken_fault c.run.result c.run.ensures.spoken)
    (inl (ran report, evaluates, c.run.ensures.told report runs))

pub returns-clause-apart : goal.returns-clause-apart
returns-clause-apart g c = record { keeps = c.run.ensures.keeps; no_device = spoken_no_device c.run.result c.run.ensures.spoken }
