use Rattle.std.proofs.Common.{sym, ◌∙◌}
use Rattle.hera_sets.proofs.Lists.{ascending_filter}
use Rattle.rel_algebra.specs.Fronts.{begins}
use Rattle.rel_algebra.proofs.FrontLemmas.{holds_begun, holds_not_begun}
use Rattle.rel_algebra.proofs.fronts.BegunSorted.has.Goals as goal

pub returns-then-has-clause-found : goal.returns-then-has-clause-found
returns-then-has-clause-found g c = c.begins.ensures ∙ holds_begun c.args.self.now.front.now (g.A.Sorted.rows c.args.self.now.a.now) c.args.row.now (sym c.if-has.ensures.found)

pub returns-then-has-clause-ordered : goal.returns-then-has-clause-ordered
returns-then-has-clause-ordered g c = ascending_filter (begins c.args.self.now.front.now) (g.A.Sorted.rows c.args.self.now.a.now) c.has.ensures.ordered

pub returns-else-has-clause-found : goal.returns-else-has-clause-found
returns-else-has-clause-found g c = c.if-has.false ∙ holds_not_begun c.args.self.now.front.now (g.A.Sorted.rows c.args.self.now.a.now) c.args.row.now (sym c.if-has.ensures.found)

pub returns-else-has-clause-ordered : goal.returns-else-has-clause-ordered
returns-else-has-clause-ordered g c = ascending_filter (begins c.args.self.now.front.now) (g.A.Sorted.rows c.args.self.now.a.now) c.has.ensures.ordered
