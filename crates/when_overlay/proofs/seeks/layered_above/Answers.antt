use Rattle.std.proofs.Common.{◌++◌, ◌<◌, ◌∙◌, ap, sym, subst, append_assoc}
use Rattle.hera_sets.specs.Sets.{least_of}
use Rattle.when_overlay.specs.Layered.{path}
use Rattle.when_overlay.specs.Seeking.{named_in, named, first_of, passes}
use Rattle.when_overlay.proofs.Layering.{path_step, path_none, parent_lower, parent_tip, height}
use Rattle.when_overlay.proofs.Meeting.{next_append, named-push}
use Rattle.when_overlay.proofs.seeks.layered_above.Goals as goal

pub loop-at-smaller : goal.loop-at-smaller
loop-at-smaller c =
    let s = path_step c.args.layers.now.layers c.in-Some.i c.layer-layer.result.now c.layer-layer.ensures.valid c.layer-layer.ensures.layer in
    subst (λ o. height c.layer-layer.result.now.parent < height o) (sym c.in-Some.is) (parent_lower c.args.layers.now.layers c.in-Some.i c.layer-layer.result.now s)

pub loop-at-preserved : goal.loop-at-preserved
loop-at-preserved c =
    let ls = c.args.layers.now.layers in
    let l = c.layer-layer.result.now in
    let rows = c.loop-at.invariant.0 in
    let s = path_step ls c.in-Some.i l c.layer-layer.ensures.valid c.layer-layer.ensures.layer in (
      named_in c.args.rel.0 c.args.sign l.delta ++ rows,
      c.lesser-first.ensures
          ∙ (λ j. least_of (c.part_above.ensures j) (c.loop-at.invariant.1 j))
          ∙ next_append (passes c.args.sought) (named_in c.args.rel.0 c.args.sign l.delta) rows,
      sym (append_assoc (named c.args.rel.0 c.args.sign (path ls l.parent)) (named_in c.args.rel.0 c.args.sign l.delta) rows)
          ∙ ap (λ xs. xs ++ rows) (sym (named-push c.args.rel.0 c.args.sign (path ls l.parent) l.delta) ∙ ap (named c.args.rel.0 c.args.sign) (sym s.step))
          ∙ ap (λ o. named c.args.rel.0 c.args.sign (path ls o) ++ rows) (sym c.in-Some.is)
          ∙ c.loop-at.invariant.2,
      parent_tip ls c.in-Some.i l s,
    )

pub returns : goal.returns
returns c =
    let ls = c.args.layers.now.layers in
    let rows = c.loop-at.invariant.0 in
    c.loop-at.invariant.1
    ∙ ap (first_of (passes c.args.sought))
    (ap (λ ds. named c.args.rel.0 c.args.sign ds ++ rows) (sym (path_none ls))
    ∙ ap (λ o. named c.args.rel.0 c.args.sign (path ls o) ++ rows) (sym c.in_default.is)
    ∙ c.loop-at.invariant.2)
