use Rattle.std.proofs.Common.{◌∙◌}
use Rattle.std.specs.Option.{option_copied}
use Rattle.hera_sets.specs.Sets.{least_of}
use Rattle.when_overlay.specs.Seeking.{passes}
use Rattle.when_overlay.proofs.Meeting.{next_last, newest_sign}
use Rattle.when_overlay.proofs.seeks.put_in_by_last.Goals as goal

pub returns : goal.returns
returns c =
    let b = passes c.args.sought in
    record {
      next = c.lesser.ensures ∙ (λ j. least_of (c.parts_above-rest.ensures j) (c.put_in_near-near.ensures.next j)) ∙ next_last b c.args.rel.0 c.args.below.now c.args.commits.now c.args.last.now c.requires;
      own = λ q found. newest_sign b c.args.rel.0 c.args.below.now c.args.commits.now c.args.last.now (option_copied c.put_in_near-near.result.row) q c.requires c.put_in_near-near.ensures.valid c.put_in_near-near.ensures.next found;
    }
