use Rattle.std.proofs.Common.{◌++◌, ◌∙◌}
use Rattle.hera_sets.specs.Sets.{least_of}
use Rattle.when_overlay.specs.Layered.{path}
use Rattle.when_overlay.specs.Seeking.{passes}
use Rattle.when_overlay.proofs.Meeting.{next_met}
use Rattle.when_overlay.proofs.seeks.met_near.Goals as goal

pub returns-clause-next : goal.returns-clause-next
returns-clause-next c =
    c.lesser.ensures
    ∙ (λ j. least_of (c.pages_near-near.ensures.next j) (c.put_in_above-added.ensures.next j))
    ∙ next_met (passes c.args.sought) c.args.rel.0 c.args.pages.now (c.args.commits.now ++ path c.args.layers.now.layers c.args.tip) c.pages_near-near.ensures.ordered
