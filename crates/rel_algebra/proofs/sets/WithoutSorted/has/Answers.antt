use Rattle.std.proofs.Common.{refl}
use Rattle.std.specs.List.{filter}
use Rattle.hera_sets.specs.Sets.{is_apart}
use Rattle.hera_sets.proofs.Members.{ascending_normal, holds-minus}
use Rattle.rel_algebra.proofs.sets.WithoutSorted.has.Goals as goal

pub returns-then-not-has-clause-found : goal.returns-then-not-has-clause-found
returns-then-not-has-clause-found g c = rw (holds-minus (g.A.Sorted.rows c.args.self.now.a.now) (g.B.Sorted.rows c.args.self.now.b.now) c.args.row.now, ← c.has.ensures.found) (rw c.if-not-has.true c.has-then-not-has.ensures.found)

pub returns-then-not-has-clause-ordered : goal.returns-then-not-has-clause-ordered
returns-then-not-has-clause-ordered g c = ascending_normal (filter (is_apart (g.B.Sorted.rows c.args.self.now.b.now)) (g.A.Sorted.rows c.args.self.now.a.now))

pub returns-else-not-has-clause-found : goal.returns-else-not-has-clause-found
returns-else-not-has-clause-found g c = rw (holds-minus (g.A.Sorted.rows c.args.self.now.a.now) (g.B.Sorted.rows c.args.self.now.b.now) c.args.row.now, ← c.has.ensures.found) (rw c.if-not-has.false refl)

pub returns-else-not-has-clause-ordered : goal.returns-else-not-has-clause-ordered
returns-else-not-has-clause-ordered g c = ascending_normal (filter (is_apart (g.B.Sorted.rows c.args.self.now.b.now)) (g.A.Sorted.rows c.args.self.now.a.now))
