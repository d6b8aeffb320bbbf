use Rattle.std.proofs.Common.{◌++◌, ◌∙◌, None}
use Rattle.std.specs.Option.{option_copied}
use Rattle.hera_sets.specs.Sets.{least_of}
use Rattle.when_overlay.specs.Layered.{path}
use Rattle.when_overlay.specs.Seeking.{passes}
use Rattle.when_overlay.proofs.Layering.{path_last}
use Rattle.when_overlay.proofs.Meeting.{next_newest, newest_sign}
use Rattle.when_overlay.proofs.seeks.met_behind.Goals as goal

pub is_kept_of-requires-clause-put_in : goal.is_kept_of-requires-clause-put_in
is_kept_of-requires-clause-put_in c = λ q found.
    let ls = c.args.layers.now.layers in
    let under = c.args.below.now ++ path ls None in
    let whole = path_last ls c.args.commits.now c.args.below.now c.args.last.now c.requires in
    newest_sign (passes c.args.sought) c.args.rel.0 under (c.args.commits.now ++ path ls None) c.args.last.now (option_copied c.put_in_near-own.result.row) q whole c.put_in_near-own.ensures.valid c.put_in_near-own.ensures.next found

pub returns-clause-next : goal.returns-clause-next
returns-clause-next c =
    let ls = c.args.layers.now.layers in
    let under = c.args.below.now ++ path ls None in
    let whole = path_last ls c.args.commits.now c.args.below.now c.args.last.now c.requires in
    c.lesser-row.ensures
    ∙ (λ j. least_of (c.met_near-near.ensures.next j) (c.put_in_near-own.ensures.next j))
    ∙ next_newest (passes c.args.sought) c.args.rel.0 c.args.pages.now under (c.args.commits.now ++ path ls None) c.args.last.now whole
