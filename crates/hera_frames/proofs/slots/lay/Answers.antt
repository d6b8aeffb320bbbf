use Rattle.std.proofs.Common.{◌-◌, ◌++◌, ◌∙◌, ap, pos}
use Rattle.std.specs.Prelude.{replicate}
use Rattle.hera_values.specs.declared.values.Datum.TheVariants.{Int}
use Rattle.hera_frames.proofs.Moved.{begun}
use Rattle.hera_frames.proofs.slots.lay.Goals as goal

pub returns : goal.returns
returns c =
    begun c.args.params c.args.slots c.args.operands.now.items c.move_newest.new.self.items c.fill.new.items.items c.move_newest.new.to.items c.reverse.new.self.items
    c.requires.there c.requires.held
    (c.fill.ensures.items ∙ ap (λ xs. xs ++ replicate (c.args.slots - c.args.params) (Int (pos 0))) c.empty.ensures.items)
    c.move_newest.ensures.moved c.reverse.ensures.items c.move_newest.ensures.rest
