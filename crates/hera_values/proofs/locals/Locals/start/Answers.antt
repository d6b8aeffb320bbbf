use Rattle.hera_values.proofs.Slots.{all_zero}
use Rattle.hera_values.proofs.locals.Locals.start.Goals as goal

pub returns : goal.returns
returns c = all_zero c.args.slots c.in_ok-items.items.items c.fill.new.items.items c.in_ok-items.ensures.items c.fill.ensures.items
