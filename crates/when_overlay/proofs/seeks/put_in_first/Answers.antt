use Rattle.std.proofs.Common.{◌∙◌, sym}
use Rattle.hera_meaning.specs.declared.scalars.Sign.TheVariants.{Plus}
use Rattle.when_overlay.proofs.Meeting.{named_part, put_in_first}
use Rattle.when_overlay.proofs.seeks.put_in_first.Goals as goal

pub returns : goal.returns
returns c =
    c.part.ensures.rows ∙ named_part c.args.rel.0 Plus c.args.delta.now (sym c.if-is_fail.ensures.fails) ∙ put_in_first c.args.rel.0 c.args.delta.now c.part.ensures.valid
