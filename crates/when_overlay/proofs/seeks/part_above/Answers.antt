use Rattle.std.proofs.Common.{◌∙◌, ap, sym}
use Rattle.when_overlay.proofs.Meeting.{named_part, next_ascending}
use Rattle.when_overlay.specs.Seeking.{first_of, passes}
use Rattle.when_overlay.proofs.seeks.part_above.Goals as goal

pub returns : goal.returns
returns c =
    c.set_near.ensures.next ∙ next_ascending (passes c.args.sought) c.part.result.now c.set_near.ensures.ordered
    ∙ ap (first_of (passes c.args.sought)) (c.part.ensures.rows ∙ named_part c.args.rel.0 c.args.sign c.args.delta.now (sym c.if-is_fail.ensures.fails))
