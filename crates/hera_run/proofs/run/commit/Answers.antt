use Rattle.std.proofs.Common.{List, [], ◌∷◌, ℕ, refl, ap, ◌∙◌, subst}
use Rattle.std.proofs.lemmas.Result.{MatchResult-from_err}
use Rattle.hera_meaning.specs.Printed.{commit_text}
use Rattle.hera_meaning.specs.Worlds.{Event, out, store}
use Rattle.hera_meaning.specs.Deltas.{State, apply_of}
use Rattle.hera_volume.proofs.Moments.{leaves-weaker, leaves-on}
use Rattle.hera_store.specs.Databases.{Database}
use Rattle.hera_outcome.specs.Cut.{IsCutWith}
use Rattle.hera_run.proofs.Cuts.{cut-longer, cut-behind, cut-found}
use Rattle.hera_run.proofs.Endings.{none_part}
use Rattle.hera_run.proofs.Results.{ok_then}
use Rattle.hera_outcome.specs.Passages.{passage}
use Rattle.hera_outcome.proofs.Passing.{memory_faults, faults_by, stop_faults}
use Rattle.hera_run.proofs.run.commit.Goals as goal

pub returns-in_err-carry_out-clause-part : goal.returns-in_err-carry_out-clause-part
returns-in_err-carry_out-clause-part g c =
    MatchResult-from_err c.from_residual-in_err-carry_out.result _ _ c.from_residual-in_err-carry_out.ensures.0 (λ _. none_part _ _ (commit_text c.args.number) c.in_err-carry_out.ensures.part)

pub returns-in_err-carry_out-clause-any_moment : goal.returns-in_err-carry_out-clause-any_moment
returns-in_err-carry_out-clause-any_moment g c = λ told.
    let finds = g.K.Keeper.finds c.args.keeper.now (g.W.Outside.disk c.args.outside.now) in
    let s = (g.K.Keeper.database c.args.keeper.now).state in
    let stored : Event = store (apply_of s c.args.delta) c.args.delta in
    leaves-weaker _ _ (c.carry_out.ensures.any_moment told) (λ image cut.
    cut-longer finds (stored ∷ []) (out (commit_text c.args.number) ∷ []) (stored ∷ out (commit_text c.args.number) ∷ []) s (g.W.Output.emitted c.args.outside.now) image refl cut)

pub returns-clause-any_moment : goal.returns-clause-any_moment
returns-clause-any_moment g c = λ told.
    let finds = g.K.Keeper.finds c.args.keeper.now (g.W.Outside.disk c.args.outside.now) in
    let later = g.K.Keeper.finds c.carry_out.new.keeper (g.W.Outside.disk c.carry_out.new.outside) in
    let s = (g.K.Keeper.database c.args.keeper.now).state in
    let here = apply_of s c.args.delta in
    let stored : Event = store here c.args.delta in
    let line = out (commit_text c.args.number) ∷ [] in
    let start = g.W.Output.emitted c.args.outside.now in
    let mid = g.W.Output.emitted c.carry_out.new.outside in
    let ens = c.in_ok-carry_out.ensures in
    let first = leaves-weaker _ _ (c.carry_out.ensures.any_moment told) (λ image cut. cut-longer finds (stored ∷ []) line (stored ∷ line) s start image refl cut) in
    leaves-on _ _ first (c.carry_out-2.ensures.any_moment told) (λ image cut.
    cut-behind finds (stored ∷ []) line s here start mid image ens.whole refl
    (cut-found finds later line here mid image (ens.finds told)
    (subst (λ (t : State). IsCutWith later line t mid image) (ap (λ (x : Database). x.state) ens.kept)
    (subst (λ (l : List ℕ). IsCutWith later (out l ∷ []) (g.K.Keeper.database c.carry_out.new.keeper).state mid image) c.in_ok-text.ensures cut))))

pub returns-in_err-text-clause-faults : goal.returns-in_err-text-clause-faults
returns-in_err-text-clause-faults g c = memory_faults c.from_residual.result (passage g.W.Output g.W.Outside c.args.outside.now c.args.outside.now) c.from_residual.ensures.1 refl refl

pub returns-clause-faults : goal.returns-clause-faults
returns-clause-faults g c =
    let first = c.in_ok-carry_out.ensures.faults in
    faults_by g.W.Output g.W.Outside c.args.outside.now c.carry_out.new.outside first.1 first.0 c.carry_out-2.result c.carry_out-2.new.outside c.carry_out-2.ensures.faults

pub returns-in_err-carry_out-clause-faults : goal.returns-in_err-carry_out-clause-faults
returns-in_err-carry_out-clause-faults g c =
    stop_faults c.from_residual-in_err-carry_out.result c.in_err-carry_out.field-0.0 (passage g.W.Output g.W.Outside c.args.outside.now c.carry_out.new.outside) c.from_residual-in_err-carry_out.ensures.1 c.in_err-carry_out.ensures.faults

pub returns-clause-refusal : goal.returns-clause-refusal
returns-clause-refusal g c = ok_then c.carry_out-2.result c.carry_out-2.ensures.refusal (λ is. is ∙ c.in_ok-carry_out.ensures.refusal)
