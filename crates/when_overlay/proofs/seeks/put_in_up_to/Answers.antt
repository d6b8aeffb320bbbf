use Rattle.std.proofs.Common.{◌++◌, ◌∷◌, [], ◌∙◌, ap, sym, Some, append_assoc}
use Rattle.std.specs.Option.{option_copied}
use Rattle.hera_sets.specs.Sets.{least_of}
use Rattle.when_overlay.specs.Layered.{path}
use Rattle.when_overlay.specs.Seeking.{passes}
use Rattle.when_overlay.proofs.Layering.{path_step, parent_tip}
use Rattle.when_overlay.proofs.Meeting.{next_last, newest_sign}
use Rattle.when_overlay.proofs.seeks.put_in_up_to.Goals as goal

pub named_above-rest-requires : goal.named_above-rest-requires
named_above-rest-requires c =
    let ls = c.args.layers.now.layers in
    let l = c.layer-layer.result.now in
    parent_tip ls c.args.i l (path_step ls c.args.i l c.layer-layer.ensures.valid c.layer-layer.ensures.layer)

pub returns : goal.returns
returns c =
    let b = passes c.args.sought in
    let ls = c.args.layers.now.layers in
    let l = c.layer-layer.result.now in
    let s = path_step ls c.args.i l c.layer-layer.ensures.valid c.layer-layer.ensures.layer in
    let under = c.args.commits.now ++ path ls l.parent in
    let all = c.args.commits.now ++ path ls (Some c.args.i) in
    let whole = ap (λ ds. c.args.commits.now ++ ds) s.step ∙ sym (append_assoc c.args.commits.now (path ls l.parent) (l.delta ∷ [])) in
    record {
      next = c.lesser.ensures ∙ (λ j. least_of (c.named_above-rest.ensures j) (c.put_in_near-near.ensures.next j)) ∙ next_last b c.args.rel.0 under all l.delta whole;
      own = λ q found. newest_sign b c.args.rel.0 under all l.delta (option_copied c.put_in_near-near.result.row) q whole c.put_in_near-near.ensures.valid c.put_in_near-near.ensures.next found;
    }
