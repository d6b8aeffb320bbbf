use Rattle.std.proofs.Common.{◌∙◌, ap, arith}
use Rattle.hera_frames.proofs.Holding.{same_values}
use Rattle.hera_frames.proofs.Upheld.{upheld_operands}
use Rattle.hera_steps.proofs.Sights.{the_view}
use Rattle.hera_steps.specs.Working.{Work, machine_at}
use Rattle.hera_steps.proofs.running.Running.hold.Goals as goal

pub invariant_of-self : goal.invariant_of-self
invariant_of-self c =
    let now = c.self.inside in
    upheld_operands now.changes now.own now.floor now.operands.items now.walks now.names_below now.callers c.hold_newest.new.self.items (omega (arith, c.hold_newest.ensures.reach, c.self.invariant.operands)) c.self.invariant

pub returns-clause-same : goal.returns-clause-same
returns-clause-same c =
    let now = c.self.inside in
    let s = c.args.stored.now.state in
    (λ i. record (machine_at s (the_view now)) { operands = same_values s now.changes.layers c.hold_newest.new.self.items now.operands.items c.hold_newest.ensures.same i })
    ∙ ap (λ (w : Work). machine_at s w) c.self.view_is
