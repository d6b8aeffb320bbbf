use Rattle.std.proofs.Common.{List, ◌∙◌, [], ap, sym, subst}
use Rattle.hera_meaning.specs.declared.schemas.RelDecl.{RelDecl}
use Rattle.hera_meaning.specs.Deltas.{atoms}
use Rattle.hera_frames.specs.Waiting.{IsUpheld}
use Rattle.hera_frames.proofs.Upheld.{upheld_pending}
use Rattle.hera_steps.proofs.Sights.{the_view}
use Rattle.hera_steps.specs.Working.{Work, machine_at, NamesNothing}
use Rattle.hera_steps.proofs.Changing.{repended, stored}
use Rattle.hera_steps.proofs.running.Running.change_pending.Goals as goal

pub invariant_of-self : goal.invariant_of-self
invariant_of-self c =
    let now = c.self.inside in
    let new = c.replace_pending.new.self in
    subst (λ (rels : List RelDecl). IsUpheld (record { catalogue = rels; layers = new.layers; tip = new.tip }) now.own now.floor now.operands.items now.walks now.names_below now.callers) (sym c.replace_pending.ensures.catalogue)
    (subst (λ k. IsUpheld (record { catalogue = now.changes.catalogue; layers = new.layers; tip = k }) now.own now.floor now.operands.items now.walks now.names_below now.callers) (sym c.replace_pending.ensures.tip)
    (upheld_pending now.changes now.own now.floor now.operands.items now.walks now.names_below now.callers new.layers c.replace_pending.ensures.count c.replace_pending.ensures.others c.self.invariant))

pub returns-clause-over : goal.returns-clause-over
returns-clause-over c = λ none s.
    repended s (the_view c.self.inside) c.replace_pending.new.self c.args.delta (subst (λ (w : Work). NamesNothing w) (sym c.self.view_is) none)
    c.replace_pending.ensures.pending c.replace_pending.ensures.others c.replace_pending.ensures.tip
    ∙ ap (λ (w : Work). record (machine_at s w) { pending = c.args.delta }) c.self.view_is

pub returns-clause-stored : goal.returns-clause-stored
returns-clause-stored c = λ none s.
    let now = c.self.inside in
    stored s (the_view now) now.floor now.names_below c.replace_pending.new.self c.replace_pending.result c.replace_pending.ensures.old c.replace_pending.ensures.known
    (c.replace_pending.ensures.pending ∙ none) c.replace_pending.ensures.others c.replace_pending.ensures.tip c.self.invariant
    ∙ ap (λ (w : Work). record (machine_at s w) { pending = atoms [] }) c.self.view_is
