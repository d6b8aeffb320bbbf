use Rattle.std.proofs.Common.{◌++◌}
use Rattle.hera_sets.proofs.Members.{ascending_normal, holds-union}
use Rattle.rel_algebra.proofs.sets.BothSorted.has.Goals as goal

pub returns-then-has-clause-found : goal.returns-then-has-clause-found
returns-then-has-clause-found g c = rw (holds-union (g.A.Sorted.rows c.args.self.now.a.now) (g.B.Sorted.rows c.args.self.now.b.now) c.args.row.now, c.if-has.true, ← c.if-has.ensures.found)

pub returns-then-has-clause-ordered : goal.returns-then-has-clause-ordered
returns-then-has-clause-ordered g c = ascending_normal (g.A.Sorted.rows c.args.self.now.a.now ++ g.B.Sorted.rows c.args.self.now.b.now)

pub returns-else-has-clause-found : goal.returns-else-has-clause-found
returns-else-has-clause-found g c = rw (holds-union (g.A.Sorted.rows c.args.self.now.a.now) (g.B.Sorted.rows c.args.self.now.b.now) c.args.row.now, ← c.if-has.ensures.found) c.has-else-has.ensures.found

pub returns-else-has-clause-ordered : goal.returns-else-has-clause-ordered
returns-else-has-clause-ordered g c = ascending_normal (g.A.Sorted.rows c.args.self.now.a.now ++ g.B.Sorted.rows c.args.self.now.b.now)
