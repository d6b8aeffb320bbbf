use Rattle.std.proofs.Common.{◌++◌, ◌∙◌}
use Rattle.when_overlay.specs.Layered.{path}
use Rattle.when_overlay.proofs.Silence.{same_signs, same_after}
use Rattle.when_overlay.proofs.indexed.IndexedHyp.new.Goals as goal

pub returns : goal.returns
returns c =
    let r = c.args.rel.0 in
    let ls = c.args.layers.now.layers in
    let front = c.up_to_naming.result.now in
    let upon = path ls c.newest_naming-newest.result in
    c.of.ensures
    ∙ same_after r c.args.pages (front ++ upon) (c.args.commits.now ++ path ls c.args.tip) c.requires.ordered
    (same_signs r front c.args.commits.now upon (path ls c.args.tip) c.up_to_naming.ensures.signs c.newest_naming-newest.ensures.signs)
