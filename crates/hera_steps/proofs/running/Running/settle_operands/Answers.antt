use Rattle.std.proofs.Common.{◌∙◌, ap, sym, subst, arith}
use Rattle.hera_frames.specs.Items.{AreHeld, reach}
use Rattle.hera_frames.proofs.Settled.{items_collected, items_are_held, reach_collected}
use Rattle.hera_frames.proofs.Upheld.{upheld_operands}
use Rattle.hera_steps.proofs.Sights.{the_view}
use Rattle.hera_steps.specs.Working.{Work, machine_at}
use Rattle.hera_steps.proofs.running.Running.settle_operands.Goals as goal

pub invariant_of-self : goal.invariant_of-self
invariant_of-self c =
    let now = c.self.inside in
    let none = ap reach c.in_ok-collect.ensures.done ∙ reach_collected c.args.stored.now.state now.changes.layers now.operands.items in
    upheld_operands now.changes now.own now.floor now.operands.items now.walks now.names_below now.callers c.collect.new.operands.items (omega (arith, none)) c.self.invariant

pub invariant_of-self-in_err-collect : goal.invariant_of-self-in_err-collect
invariant_of-self-in_err-collect c =
    let now = c.self.inside in
    let none = ap reach c.in_err-collect.ensures.err in
    upheld_operands now.changes now.own now.floor now.operands.items now.walks now.names_below now.callers c.collect.new.operands.items (omega (arith, none)) c.self.invariant

pub returns-in_ok-collect-clause-same : goal.returns-in_ok-collect-clause-same
returns-in_ok-collect-clause-same c =
    let now = c.self.inside in
    let s = c.args.stored.now.state in
    let ls = now.changes.layers in
    ap (λ items. machine_at s (record (the_view now) { operands = items; spare = c.collect.new.operands.spare })) c.in_ok-collect.ensures.done
    ∙ (λ i. record (machine_at s (the_view now)) { operands = items_collected s s ls ls now.operands.items i })
    ∙ ap (λ (w : Work). machine_at s w) c.self.view_is

pub returns-in_ok-collect-clause-held : goal.returns-in_ok-collect-clause-held
returns-in_ok-collect-clause-held c =
    let now = c.self.inside in
    subst (λ items. AreHeld items) (sym c.in_ok-collect.ensures.done) (items_are_held c.args.stored.now.state now.changes.layers now.operands.items)
