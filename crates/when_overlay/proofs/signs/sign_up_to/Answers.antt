use Rattle.std.proofs.Common.{◌<◌, ◌∙◌, ap, sym, subst}
use Rattle.when_overlay.specs.Layered.{path}
use Rattle.when_overlay.specs.Seeking.{sign_over}
use Rattle.when_overlay.proofs.Layering.{path_step, path_none, parent_lower, parent_tip, height}
use Rattle.when_overlay.proofs.Signing.{sign_here, sign_lower}
use Rattle.when_overlay.proofs.signs.sign_up_to.Goals as goal

pub returns-in-Some-sign_in : goal.returns-in-Some-sign_in
returns-in-Some-sign_in c =
    let ls = c.args.layers.now.layers in
    let l = c.layer-layer.result.now in
    let s = path_step ls c.in-Some.i l c.layer-layer.ensures.valid c.layer-layer.ensures.layer in
    sign_here c.args.rel.0 (path ls c.loop-at.at) (path ls l.parent) l.delta c.args.row.now c.in-Some-sign_in.sign (ap (path ls) c.in-Some.is ∙ s.step) (sym c.in-Some-sign_in.ensures)
    ∙ c.loop-at.invariant.left

pub loop-at-smaller : goal.loop-at-smaller
loop-at-smaller c =
    let s = path_step c.args.layers.now.layers c.in-Some.i c.layer-layer.result.now c.layer-layer.ensures.valid c.layer-layer.ensures.layer in
    subst (λ o. height c.layer-layer.result.now.parent < height o) (sym c.in-Some.is) (parent_lower c.args.layers.now.layers c.in-Some.i c.layer-layer.result.now s)

pub loop-at-preserved : goal.loop-at-preserved
loop-at-preserved c =
    let ls = c.args.layers.now.layers in
    let l = c.layer-layer.result.now in
    let s = path_step ls c.in-Some.i l c.layer-layer.ensures.valid c.layer-layer.ensures.layer in
    record {
      left = sign_lower c.args.rel.0 (path ls c.loop-at.at) (path ls l.parent) l.delta c.args.row.now (ap (path ls) c.in-Some.is ∙ s.step) (sym c.in_default-sign_in.ensures)
          ∙ c.loop-at.invariant.left;
      tip = parent_tip ls c.in-Some.i l s;
    }

pub returns : goal.returns
returns c =
    let ls = c.args.layers.now.layers in
    ap (λ ds. sign_over c.args.rel.0 ds c.args.row.now) (sym (path_none ls))
    ∙ ap (λ o. sign_over c.args.rel.0 (path ls o) c.args.row.now) (sym c.in_default.is)
    ∙ c.loop-at.invariant.left
