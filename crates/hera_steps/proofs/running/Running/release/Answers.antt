use Rattle.std.proofs.Common.{◌∙◌, ap, sym, subst}
use Rattle.hera_reads.specs.Branched.{Branches}
use Rattle.hera_frames.specs.Waiting.{IsUpheld}
use Rattle.hera_frames.proofs.Upheld.{upheld_release}
use Rattle.hera_steps.proofs.Sights.{the_view}
use Rattle.hera_steps.specs.Working.{machine_at}
use Rattle.hera_steps.proofs.Changing.{released}
use Rattle.hera_steps.proofs.running.Running.release.Goals as goal

pub invariant_of-self : goal.invariant_of-self
invariant_of-self c =
    let now = c.self.inside in
    subst (λ (x : Branches). IsUpheld x now.own now.floor now.operands.items now.walks now.names_below now.callers) (sym c.release.ensures)
    (upheld_release now.changes now.own now.floor now.operands.items now.walks now.names_below now.callers c.self.invariant)

pub returns-clause-step : goal.returns-clause-step
returns-clause-step c = λ s.
    let now = c.self.inside in
    released s (the_view now) now.floor now.names_below c.release.new.changes c.release.ensures c.self.invariant ∙ ap (λ w. machine_at s w) c.self.view_is
