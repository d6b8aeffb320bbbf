use Rattle.std.proofs.Common.{◌∙◌, sym}
use Rattle.hera_rows.proofs.FromLemmas.{from_held, from_absent}
use Rattle.hera_rows.proofs.sorted.Sorted.not_below.Goals as goal

pub returns-then-has-clause-least : goal.returns-then-has-clause-least
returns-then-has-clause-least g c = from_held c.args.bound.now (g.Self.Sorted.rows c.args.self.now) c.has.ensures.ordered (sym c.if-has.ensures.found)

pub returns-clause-least : goal.returns-clause-least
returns-clause-least g c = c.above_from.ensures.next ∙ from_absent c.args.bound.now (g.Self.Sorted.rows c.args.self.now) (sym c.if-has.ensures.found)
