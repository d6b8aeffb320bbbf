use Rattle.std.proofs.Common.{◌+◌, ◌∷◌, suc, Some, ◌∙◌, ap, sym, subst}
use Rattle.hera_reads.specs.Branched.{Branches, under}
use Rattle.hera_frames.specs.Waiting.{IsUpheld}
use Rattle.hera_frames.proofs.Upheld.{upheld_enter}
use Rattle.hera_steps.proofs.Sights.{the_view}
use Rattle.hera_steps.specs.Working.{Work, machine_at}
use Rattle.hera_steps.proofs.Changing.{entered}
use Rattle.hera_steps.proofs.running.Running.enter_layer.Goals as goal

pub invariant_of-self-2 : goal.invariant_of-self-2
invariant_of-self-2 c =
    let now = c.self.inside in
    subst (λ (x : Branches). IsUpheld x (now.own + 1) now.floor now.operands.items now.walks now.names_below now.callers) (sym c.in_ok-enter.ensures.ok)
    (upheld_enter now.changes now.own now.floor now.operands.items now.walks now.names_below now.callers c.args.delta c.self.invariant)

pub returns-clause-over : goal.returns-clause-over
returns-clause-over c = λ s.
    let now = c.self.inside in
    entered s (the_view now) now.floor now.names_below c.enter.new.self (record { parent = Some now.changes.tip; delta = c.args.delta }) c.args.delta
    (ap (λ (x : Branches). x.layers) c.in_ok-enter.ensures.ok) c.in_ok-enter.ensures.upon c.self.invariant
    ∙ ap (λ (x : Work). record (machine_at s x) { layers = c.args.delta ∷ under x.layers x.tip; own = suc x.own }) c.self.view_is
