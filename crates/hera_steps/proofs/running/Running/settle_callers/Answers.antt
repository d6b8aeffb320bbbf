use Rattle.std.proofs.Common.{false, map, ◌∙◌, ap, sym, subst}
use Rattle.hera_frames.specs.Waiting.{AreKept, frame_settled}
use Rattle.hera_frames.proofs.Upheld.{kept_settled}
use Rattle.hera_steps.proofs.Sights.{the_view}
use Rattle.hera_steps.specs.Working.{Work, machine_at, NameNone}
use Rattle.hera_steps.proofs.Changing.{frames_settled_none, frames_settled_same, kept_none}
use Rattle.hera_steps.proofs.running.Running.settle_callers.Goals as goal

pub invariant_of-self-then-self : goal.invariant_of-self-then-self
invariant_of-self-then-self c =
    let now = c.self.inside in
    let s = c.args.stored.now.state in
    let ls = now.changes.layers in
    let is = c.in_ok-self-inside.ensures ∙ ap (λ fs. map (frame_settled s ls) fs) c.replace-callers.ensures.value in
    let u = c.self.invariant in
    record {
      tip = u.tip;
      owned = u.owned;
      operands = u.operands;
      paces = u.paces;
      below = u.below;
      callers = subst (λ fs. AreKept ls now.floor false fs) (sym is) (kept_settled s ls now.floor now.names_below now.callers u.callers);
    }

pub returns-in_ok-self-inside-clause-same : goal.returns-in_ok-self-inside-clause-same
returns-in_ok-self-inside-clause-same c =
    let now = c.self.inside in
    let s = c.args.stored.now.state in
    let ls = now.changes.layers in
    let is = c.in_ok-self-inside.ensures ∙ ap (λ fs. map (frame_settled s ls) fs) c.replace-callers.ensures.value in
    ap (λ fs. machine_at s (record (the_view now) { callers = fs })) is
    ∙ (λ i. record (machine_at s (the_view now)) { callers = frames_settled_same s ls now.callers i })
    ∙ ap (λ (w : Work). machine_at s w) c.self.view_is

pub returns-in_ok-self-inside-clause-none : goal.returns-in_ok-self-inside-clause-none
returns-in_ok-self-inside-clause-none c =
    let now = c.self.inside in
    let s = c.args.stored.now.state in
    let ls = now.changes.layers in
    let is = c.in_ok-self-inside.ensures ∙ ap (λ fs. map (frame_settled s ls) fs) c.replace-callers.ensures.value in
    subst (λ fs. NameNone fs) (sym is) (frames_settled_none s ls now.callers)

pub returns-else-self-clause-none : goal.returns-else-self-clause-none
returns-else-self-clause-none c =
    let now = c.self.inside in
    subst (λ (w : Work). NameNone w.callers) c.self.view_is (kept_none now.changes.layers now.floor now.names_below now.callers c.if-self.false c.self.invariant.callers)
