use Rattle.std.proofs.Common.{◌∙◌, ◌++◌}
use Rattle.std.specs.Option.{option_copied}
use Rattle.hera_sets.specs.Sets.{least_of}
use Rattle.hera_sets.proofs.Next.{find-union}
use Rattle.hera_sets.proofs.Members.{ascending_normal}
use Rattle.rel_algebra.proofs.sets.BothSorted.above_from.Goals as goal

pub returns-clause-next : goal.returns-clause-next
returns-clause-next g c =
    c.least-row.ensures
    ∙ (λ i. least_of (c.above_from.ensures.next i) (c.above_from-2.ensures.next i))
    ∙ find-union (option_copied c.args.bound) (g.A.Sorted.rows c.args.self.now.a.now) (g.B.Sorted.rows c.args.self.now.b.now) c.above_from.ensures.ordered c.above_from-2.ensures.ordered

pub returns-clause-ordered : goal.returns-clause-ordered
returns-clause-ordered g c = ascending_normal (g.A.Sorted.rows c.args.self.now.a.now ++ g.B.Sorted.rows c.args.self.now.b.now)
