use Rattle.std.proofs.Common.{◌∙◌}
use Rattle.hera_sets.specs.Sets.{least_of}
use Rattle.when_overlay.specs.Layered.{path}
use Rattle.when_overlay.specs.Seeking.{passes}
use Rattle.when_overlay.proofs.Meeting.{next_named}
use Rattle.when_overlay.proofs.seeks.named_above.Goals as goal

pub returns : goal.returns
returns c =
    c.lesser.ensures
    ∙ (λ j. least_of (c.parts_above.ensures j) (c.layered_above.ensures j))
    ∙ next_named (passes c.args.sought) c.args.rel.0 c.args.sign c.args.commits.now (path c.args.layers.now.layers c.args.tip)
