use Rattle.std.proofs.Common.{◌≡◌, List, Result, refl, sym, ap, ◌∙◌, subst}
use Rattle.std.specs.List.{list_all}
use Rattle.hera_meaning.specs.declared.schemas.RelDecl.{RelDecl}
use Rattle.hera_meaning.specs.Deltas.{Delta, State}
use Rattle.hera_meaning.specs.Fits.{is_delta_of}
use Rattle.hera_code.specs.Reached.{code_at}
use Rattle.hera_codegen.specs.Correct.{events_in, AreStoresOf}
use Rattle.hera_host.specs.Tables.{specs_of}
use Rattle.rel_pages.specs.Stored.{empty_state}
use Rattle.hera_volume.proofs.Moments.{leaves-weaker}
use Rattle.hera_outcome.specs.declared.answer.Ending.{Ending}
use Rattle.hera_outcome.specs.declared.answer.Stop.{Stop}
use Rattle.hera_outcome.specs.declared.answer.Stop.TheVariants.{Memory}
use Rattle.hera_outcome.specs.Answers.{number_of, IsSpoken}
use Rattle.hera_outcome.specs.Outcomes.{ran}
use Rattle.hera_outcome.specs.Passages.{passage}
use Rattle.hera_outcome.specs.Told.{IsTold}
use Rattle.hera_outcome.proofs.Passing.{handed_on, told_none, keeps_none, memory_spoken}
use Rattle.hera_run.specs.Keeping.{database_with}
use Rattle.hera_run.proofs.Results.{err_is}
use Rattle.hera_top.proofs.Running.{Comes, comes_to, whole_over, run_stopped, run_part, run_image, never_over_stuck, never_over_refused}
use Rattle.hera_top.proofs.run.run.Goals as goal

pub returns-in_err-base-clause-told : goal.returns-in_err-base-clause-told
returns-in_err-base-clause-told g c = λ report is.
    handed_on (λ (r : Result Ending Stop). IsTold (ran report) (number_of r) (passage g.W.Output g.W.Outside c.args.outside.now c.args.outside.now)) c.from_residual.result Memory c.from_residual.ensures.1 (told_none g.W.Output g.W.Outside (ran report) c.args.outside.now tt)

pub returns-in_err-base-clause-spoken : goal.returns-in_err-base-clause-spoken
returns-in_err-base-clause-spoken g c = memory_spoken c.from_residual.result c.from_residual.ensures.1

pub returns-in_err-base-clause-keeps : goal.returns-in_err-base-clause-keeps
returns-in_err-base-clause-keeps g c = keeps_none g.W.Output g.W.Outside c.args.outside.now

pub run_code-requires-clause-ready : goal.run_code-requires-clause-ready
run_code-requires-clause-ready g c =
    ap (list_all (is_delta_of c.over-keeper.result.base.catalogue)) c.over-keeper.ensures.levels

pub run_code-requires-clause-proper : goal.run_code-requires-clause-proper
run_code-requires-clause-proper g c =
    let rels = c.args.relations.now in
    let code = c.args.code.now in
    let hosts = specs_of c.args.hosts.now.names in
    let k = c.over-keeper.result in
    let db = database_with k.base k.levels in
    let empty : db.state ≡ empty_state rels = ap (λ (ds : List Delta). (database_with k.base ds).state) c.over-keeper.ensures.levels ∙ ap (λ b. b.state) c.over-keeper.ensures.base ∙ c.in_ok-base.ensures.state in
    let same : db.catalogue ≡ rels = ap (λ b. b.catalogue) c.over-keeper.ensures.base ∙ c.in_ok-base.ensures.catalogue in
    λ n. subst (λ (s : State). AreStoresOf db.catalogue (events_in (code_at code rels s hosts c.args.turns n))) (sym empty)
    (subst (λ (rs : List RelDecl). AreStoresOf rs (events_in (code_at code rels (empty_state rels) hosts c.args.turns n))) (sym same) (c.requires.stores n))

pub ending_of-requires-clause-refused : goal.ending_of-requires-clause-refused
ending_of-requires-clause-refused g c =
    let rels = c.args.relations.now in
    let code = c.args.code.now in
    let hosts = specs_of c.args.hosts.now.names in
    let k = c.over-keeper.result in
    let db = database_with k.base k.levels in
    let empty : db.state ≡ empty_state rels = ap (λ (ds : List Delta). (database_with k.base ds).state) c.over-keeper.ensures.levels ∙ ap (λ b. b.state) c.over-keeper.ensures.base ∙ c.in_ok-base.ensures.state in
    let (report, is) = c.requires.over in
    let comes : Comes code rels hosts db.state c.args.turns report = subst (λ (s : State). Comes code rels hosts s c.args.turns report) (sym empty) (comes_to code rels hosts (empty_state rels) c.args.turns _ report is) in
    λ refused. never_over_refused code rels hosts db c.args.turns report comes code rels _ _ _ c.in_ok-close.close refused c.in_ok-close.ensures.over

pub ending_of-requires-clause-stuck : goal.ending_of-requires-clause-stuck
ending_of-requires-clause-stuck g c =
    let rels = c.args.relations.now in
    let code = c.args.code.now in
    let hosts = specs_of c.args.hosts.now.names in
    let k = c.over-keeper.result in
    let db = database_with k.base k.levels in
    let empty : db.state ≡ empty_state rels = ap (λ (ds : List Delta). (database_with k.base ds).state) c.over-keeper.ensures.levels ∙ ap (λ b. b.state) c.over-keeper.ensures.base ∙ c.in_ok-base.ensures.state in
    let (report, is) = c.requires.over in
    let comes : Comes code rels hosts db.state c.args.turns report = subst (λ (s : State). Comes code rels hosts s c.args.turns report) (sym empty) (comes_to code rels hosts (empty_state rels) c.args.turns _ report is) in
    λ stuck. never_over_stuck code rels hosts db c.args.turns report comes code rels _ _ _ c.in_ok-close.close refl refl stuck c.in_ok-close.ensures.over

pub returns-clause-told : goal.returns-clause-told
returns-clause-told g c = λ report is.
    let rels = c.args.relations.now in
    let code = c.args.code.now in
    let hosts = specs_of c.args.hosts.now.names in
    let k = c.over-keeper.result in
    let db = database_with k.base k.levels in
    let empty : db.state ≡ empty_state rels = ap (λ (ds : List Delta). (database_with k.base ds).state) c.over-keeper.ensures.levels ∙ ap (λ b. b.state) c.over-keeper.ensures.base ∙ c.in_ok-base.ensures.state in
    let comes : Comes code rels hosts db.state c.args.turns report = subst (λ (s : State). Comes code rels hosts s c.args.turns report) (sym empty) (comes_to code rels hosts (empty_state rels) c.args.turns _ report is) in
    let v = passage g.W.Output g.W.Outside c.args.outside.now c.run_code.new.outside in
    whole_over code rels hosts db c.args.turns report comes code rels v _ c.in_ok-close.close _ refl refl c.ending_of.ensures c.in_ok-close.ensures.faults.0 (c.run_code.ensures.keeps tt)
    (λ told. leaves-weaker _ _ (c.run_code.ensures.any_moment told) (λ image cut. run_image code rels hosts db c.args.turns report comes code rels (g.W.Outside.disk c.args.outside.now) (g.W.Output.emitted c.args.outside.now) image refl refl cut)) c.in_ok-close.ensures.over

pub returns-in_err-close-clause-told : goal.returns-in_err-close-clause-told
returns-in_err-close-clause-told g c = λ report is.
    let rels = c.args.relations.now in
    let code = c.args.code.now in
    let hosts = specs_of c.args.hosts.now.names in
    let k = c.over-keeper.result in
    let db = database_with k.base k.levels in
    let empty : db.state ≡ empty_state rels = ap (λ (ds : List Delta). (database_with k.base ds).state) c.over-keeper.ensures.levels ∙ ap (λ b. b.state) c.over-keeper.ensures.base ∙ c.in_ok-base.ensures.state in
    let comes : Comes code rels hosts db.state c.args.turns report = subst (λ (s : State). Comes code rels hosts s c.args.turns report) (sym empty) (comes_to code rels hosts (empty_state rels) c.args.turns _ report is) in
    let v = passage g.W.Output g.W.Outside c.args.outside.now c.run_code.new.outside in
    let stop = c.in_err-close.field-0.0 in
    handed_on (λ (r : Result Ending Stop). IsTold (ran report) (number_of r) v) c.from_residual-in_err-close.result stop c.from_residual-in_err-close.ensures.1
    (run_stopped code rels hosts db c.args.turns report comes stop v c.in_err-close.ensures.faults (c.in_err-close.ensures.spoken tt) (run_part code rels hosts db c.args.turns report comes code rels _ _ refl refl c.in_err-close.ensures.cut) (c.run_code.ensures.keeps tt)
    (λ told. leaves-weaker _ _ (c.run_code.ensures.any_moment told) (λ image cut. run_image code rels hosts db c.args.turns report comes code rels (g.W.Outside.disk c.args.outside.now) (g.W.Output.emitted c.args.outside.now) image refl refl cut)))

pub returns-in_err-close-clause-spoken : goal.returns-in_err-close-clause-spoken
returns-in_err-close-clause-spoken g c =
    err_is IsSpoken c.from_residual-in_err-close.result c.in_err-close.field-0.0 c.from_residual-in_err-close.ensures.1 (c.in_err-close.ensures.spoken tt)
