use Rattle.std.proofs.Common.{◌++◌, ◌∷◌, [], ◌∙◌, ap, refl, Some}
use Rattle.when_overlay.specs.Layered.{path}
use Rattle.when_overlay.proofs.Layering.{path_step, path_none}
use Rattle.when_overlay.proofs.seeks.lowest_delta.Goals as goal

pub returns-then-is_lowest : goal.returns-then-is_lowest
returns-then-is_lowest c =
    let ls = c.args.layers.now.layers in
    let l = c.layer-layer.result.now in
    let s = path_step ls c.args.i l c.layer-layer.ensures.valid c.layer-layer.ensures.layer in
    let commits = c.if-is_lowest.ensures.commits refl in
    let parent = c.if-is_lowest.ensures.parent refl in
    (λ j. commits j ++ path ls (Some c.args.i)) ∙ s.step ∙ (λ j. path ls (parent j) ++ l.delta ∷ []) ∙ ap (λ ds. ds ++ l.delta ∷ []) (path_none ls)
