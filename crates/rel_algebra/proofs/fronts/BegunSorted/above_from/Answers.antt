use Rattle.std.proofs.Common.{sym, ap, ◌∙◌}
use Rattle.std.specs.Option.{option_copied}
use Rattle.hera_sets.proofs.Lists.{ascending_filter}
use Rattle.rel_algebra.specs.Fronts.{begins, begun_in}
use Rattle.rel_algebra.proofs.FrontLemmas.{starts_at_bound, begun_past, begun_from}
use Rattle.rel_algebra.proofs.fronts.BegunSorted.above_from.Goals as goal

pub returns-then-is_past-clause-next : goal.returns-then-is_past-clause-next
returns-then-is_past-clause-next g c =
    c.begun_in.ensures
    ∙ ap (begun_in c.args.self.now.front.now) c.not_below.ensures.least
    ∙ begun_from c.args.self.now.front.now (g.A.Sorted.rows c.args.self.now.a.now) (option_copied c.args.bound) c.not_below.ensures.ordered (sym c.if-is_past.ensures)

pub returns-then-is_past-clause-ordered : goal.returns-then-is_past-clause-ordered
returns-then-is_past-clause-ordered g c = ascending_filter (begins c.args.self.now.front.now) (g.A.Sorted.rows c.args.self.now.a.now) c.not_below.ensures.ordered

pub returns-clause-next : goal.returns-clause-next
returns-clause-next g c =
    let front = c.args.self.now.front.now in
    let rows = g.A.Sorted.rows c.args.self.now.a.now in
    let bound = option_copied c.args.bound in
    c.begun_in-2.ensures
    ∙ ap (begun_in front) c.above_from.ensures.next
    ∙ begun_past front rows bound bound c.above_from.ensures.ordered (starts_at_bound front rows bound (sym c.if-is_past.ensures))

pub returns-clause-ordered : goal.returns-clause-ordered
returns-clause-ordered g c = ascending_filter (begins c.args.self.now.front.now) (g.A.Sorted.rows c.args.self.now.a.now) c.above_from.ensures.ordered
