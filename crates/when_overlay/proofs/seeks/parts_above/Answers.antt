use Rattle.std.proofs.Common.{◌∙◌, ap, sym, take}
use Rattle.hera_sets.specs.Sets.{least_of}
use Rattle.when_overlay.specs.Seeking.{named_in, named, first_of, passes}
use Rattle.when_overlay.proofs.Meeting.{next_append, named_more}
use Rattle.when_overlay.proofs.seeks.parts_above.Goals as goal

pub loop-delta-preserved : goal.loop-delta-preserved
loop-delta-preserved c =
    c.lesser-first.ensures
    ∙ (λ j. least_of (c.loop-delta.invariant j) (c.part_above.ensures j))
    ∙ next_append (passes c.args.sought) (named c.args.rel.0 c.args.sign (take c.loop-delta.delta-index c.args.deltas.now)) (named_in c.args.rel.0 c.args.sign c.delta-item.result)
    ∙ ap (first_of (passes c.args.sought)) (sym (named_more c.args.rel.0 c.args.sign c.args.deltas.now c.loop-delta.delta-index c.delta-item.result c.loop-delta-test.true c.delta-item.is))
