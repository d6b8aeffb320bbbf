use Rattle.std.proofs.Common.{◌<◌, ◌∙◌, ap, sym, refl, subst}
use Rattle.when_overlay.specs.Layered.{path}
use Rattle.when_overlay.proofs.Layering.{path_step, parent_lower, parent_tip, height}
use Rattle.when_overlay.proofs.Signing.{sign_lower}
use Rattle.when_overlay.proofs.Silence.{named_lower}
use Rattle.when_overlay.proofs.naming.newest_naming.Goals as goal

pub loop-at-smaller : goal.loop-at-smaller
loop-at-smaller c =
    let s = path_step c.args.layers.now.layers c.in-Some.i c.layer-layer.result.now c.layer-layer.ensures.valid c.layer-layer.ensures.layer in
    subst (λ o. height c.layer-layer.result.now.parent < height o) (sym c.in-Some.is) (parent_lower c.args.layers.now.layers c.in-Some.i c.layer-layer.result.now s)

pub loop-at-preserved : goal.loop-at-preserved
loop-at-preserved c =
    let ls = c.args.layers.now.layers in
    let l = c.layer-layer.result.now in
    let s = path_step ls c.in-Some.i l c.layer-layer.ensures.valid c.layer-layer.ensures.layer in
    let whole = ap (path ls) c.in-Some.is ∙ s.step in
    record {
      signs = λ q. sign_lower c.args.rel.0 (path ls c.loop-at.at) (path ls l.parent) l.delta q whole (c.if-names.ensures.signs refl q) ∙ c.loop-at.invariant.signs q;
      puts = named_lower c.args.rel.0 (path ls c.loop-at.at) (path ls l.parent) l.delta whole (c.if-names.ensures.puts refl) ∙ c.loop-at.invariant.puts;
      tip = parent_tip ls c.in-Some.i l s;
    }
