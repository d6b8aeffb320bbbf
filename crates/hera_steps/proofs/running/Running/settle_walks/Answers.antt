use Rattle.std.proofs.Common.{map, ◌∙◌, ap, sym, subst, arith}
use Rattle.hera_reads.specs.Walking.{settled, AreGiven, walks_reach}
use Rattle.hera_frames.proofs.Settled.{walks_settled, walks_are_given, reach_settled}
use Rattle.hera_frames.proofs.Upheld.{upheld_walks}
use Rattle.hera_steps.proofs.Sights.{the_view}
use Rattle.hera_steps.specs.Working.{Work, machine_at}
use Rattle.hera_steps.proofs.running.Running.settle_walks.Goals as goal

pub invariant_of-self-then-any_named : goal.invariant_of-self-then-any_named
invariant_of-self-then-any_named c =
    let now = c.self.inside in
    let s = c.args.stored.now.state in
    let ls = now.changes.layers in
    let is = c.in_ok-self-inside.ensures ∙ ap (λ ws. map (settled s ls) ws) c.replace-walks.ensures.value in
    let none = ap walks_reach is ∙ reach_settled s ls now.walks in
    upheld_walks now.changes now.own now.floor now.operands.items now.walks now.names_below now.callers c.in_ok-self-inside.field-0 (omega (arith, none)) c.self.invariant

pub returns-in_ok-self-inside-clause-same : goal.returns-in_ok-self-inside-clause-same
returns-in_ok-self-inside-clause-same c =
    let now = c.self.inside in
    let s = c.args.stored.now.state in
    let ls = now.changes.layers in
    let is = c.in_ok-self-inside.ensures ∙ ap (λ ws. map (settled s ls) ws) c.replace-walks.ensures.value in
    ap (λ ws. machine_at s (record (the_view now) { walks = ws })) is
    ∙ (λ i. record (machine_at s (the_view now)) { walks = walks_settled s s ls ls now.walks i })
    ∙ ap (λ (w : Work). machine_at s w) c.self.view_is

pub returns-in_ok-self-inside-clause-given : goal.returns-in_ok-self-inside-clause-given
returns-in_ok-self-inside-clause-given c =
    let now = c.self.inside in
    let s = c.args.stored.now.state in
    let ls = now.changes.layers in
    let is = c.in_ok-self-inside.ensures ∙ ap (λ ws. map (settled s ls) ws) c.replace-walks.ensures.value in
    subst (λ ws. AreGiven ws) (sym is) (walks_are_given s ls now.walks)
