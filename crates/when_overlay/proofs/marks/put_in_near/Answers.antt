use Rattle.std.proofs.Common.{◌∙◌, ap, sym}
use Rattle.hera_meaning.specs.declared.scalars.Sign.TheVariants.{Plus}
use Rattle.when_overlay.specs.Seeking.{first_of, passes}
use Rattle.when_overlay.proofs.Meeting.{named_part, next_ascending}
use Rattle.when_overlay.proofs.marks.put_in_near.Goals as goal

pub returns-clause-next : goal.returns-clause-next
returns-clause-next c =
    let b = passes c.args.sought in
    c.set_near.ensures.next
    ∙ next_ascending b c.part.result.now c.set_near.ensures.ordered
    ∙ ap (first_of b) (c.part.ensures.rows ∙ named_part c.args.rel.0 Plus c.args.delta.now (sym c.if-is_fail.ensures.fails))
