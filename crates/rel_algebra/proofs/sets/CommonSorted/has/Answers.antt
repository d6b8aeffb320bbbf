use Rattle.std.proofs.Common.{refl}
use Rattle.std.specs.List.{filter}
use Rattle.hera_sets.specs.Rows.{holds}
use Rattle.hera_sets.proofs.Members.{ascending_normal, holds-inter}
use Rattle.rel_algebra.proofs.sets.CommonSorted.has.Goals as goal

pub returns-then-has-clause-found : goal.returns-then-has-clause-found
returns-then-has-clause-found g c = rw (holds-inter (g.A.Sorted.rows c.args.self.now.a.now) (g.B.Sorted.rows c.args.self.now.b.now) c.args.row.now, ← c.has.ensures.found) (rw c.if-has.true c.has-then-has.ensures.found)

pub returns-then-has-clause-ordered : goal.returns-then-has-clause-ordered
returns-then-has-clause-ordered g c = ascending_normal (filter (holds (g.B.Sorted.rows c.args.self.now.b.now)) (g.A.Sorted.rows c.args.self.now.a.now))

pub returns-else-has-clause-found : goal.returns-else-has-clause-found
returns-else-has-clause-found g c = rw (holds-inter (g.A.Sorted.rows c.args.self.now.a.now) (g.B.Sorted.rows c.args.self.now.b.now) c.args.row.now, ← c.has.ensures.found) (rw c.if-has.false refl)

pub returns-else-has-clause-ordered : goal.returns-else-has-clause-ordered
returns-else-has-clause-ordered g c = ascending_normal (filter (holds (g.B.Sorted.rows c.args.self.now.b.now)) (g.A.Sorted.rows c.args.self.now.a.now))
