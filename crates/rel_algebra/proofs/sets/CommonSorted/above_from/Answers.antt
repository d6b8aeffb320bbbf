use Rattle.std.proofs.Common.{◌∙◌, sym}
use Rattle.std.specs.List.{filter}
use Rattle.std.specs.Option.{option_copied}
use Rattle.hera_sets.specs.Rows.{holds}
use Rattle.hera_sets.proofs.Lists.{walk_falls}
use Rattle.hera_sets.proofs.Next.{find-filter_past_step, find-filter_past_found, find-filter_past_none, find-minus}
use Rattle.hera_sets.proofs.Members.{ascending_normal}
use Rattle.rel_algebra.proofs.sets.CommonSorted.above_from.Goals as goal

pub loop-row-smaller : goal.loop-row-smaller
loop-row-smaller g c = walk_falls (g.A.Sorted.rows c.args.self.now.a.now) (option_copied c.loop-row.last) c.in-Some.row.now c.in-Some.ensures.ordered (sym c.in-Some.ensures.next)

pub loop-row-preserved : goal.loop-row-preserved
loop-row-preserved g c =
    find-filter_past_step (holds (g.B.Sorted.rows c.args.self.now.b.now)) (option_copied c.loop-row.last) (g.A.Sorted.rows c.args.self.now.a.now) c.in-Some.row.now c.in-Some.ensures.ordered (sym c.in-Some.ensures.next) (sym c.if-has.ensures.found)
    ∙ c.loop-row.invariant

pub returns-then-has-clause-next : goal.returns-then-has-clause-next
returns-then-has-clause-next g c =
    find-filter_past_found (holds (g.B.Sorted.rows c.args.self.now.b.now)) (option_copied c.loop-row.last) (g.A.Sorted.rows c.args.self.now.a.now) c.in-Some.row.now c.in-Some.ensures.ordered (sym c.in-Some.ensures.next) (sym c.if-has.ensures.found)
    ∙ c.loop-row.invariant
    ∙ find-minus (holds (g.B.Sorted.rows c.args.self.now.b.now)) (option_copied c.args.bound) (g.A.Sorted.rows c.args.self.now.a.now) c.in-Some.ensures.ordered

pub returns-then-has-clause-ordered : goal.returns-then-has-clause-ordered
returns-then-has-clause-ordered g c = ascending_normal (filter (holds (g.B.Sorted.rows c.args.self.now.b.now)) (g.A.Sorted.rows c.args.self.now.a.now))

pub returns-clause-next : goal.returns-clause-next
returns-clause-next g c =
    find-filter_past_none (holds (g.B.Sorted.rows c.args.self.now.b.now)) (option_copied c.loop-row.last) (g.A.Sorted.rows c.args.self.now.a.now) (sym c.in_default.ensures.next)
    ∙ c.loop-row.invariant
    ∙ find-minus (holds (g.B.Sorted.rows c.args.self.now.b.now)) (option_copied c.args.bound) (g.A.Sorted.rows c.args.self.now.a.now) c.in_default.ensures.ordered

pub returns-clause-ordered : goal.returns-clause-ordered
returns-clause-ordered g c = ascending_normal (filter (holds (g.B.Sorted.rows c.args.self.now.b.now)) (g.A.Sorted.rows c.args.self.now.a.now))
