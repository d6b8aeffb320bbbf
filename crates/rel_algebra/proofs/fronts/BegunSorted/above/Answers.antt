use Rattle.std.proofs.Common.{sym, ap, subst}
use Rattle.std.specs.Option.{option_copied}
use Rattle.hera_sets.proofs.Lists.{ascending_filter}
use Rattle.rel_algebra.specs.Fronts.{begins}
use Rattle.rel_algebra.proofs.FrontLemmas.{Starts, starts_at_front, starts_at_bound, found_front, found_begun, found_none, found_passed}
use Rattle.rel_algebra.proofs.fronts.BegunSorted.above.Goals as goal
use Rattle.rel_algebra.proofs.fronts.BegunSorted.above.Goals.{then-is_past+else-has, else-is_past, in_default-via-in-Some+else-begins, in_default-via-in_default}

pub returns-then-has-clause-next : goal.returns-then-has-clause-next
returns-then-has-clause-next g c =
    found_front c.args.self.now.front.now (g.A.Sorted.rows c.args.self.now.a.now) (option_copied c.args.bound) c.has.ensures.ordered (sym c.if-is_past.ensures) (sym c.if-has.ensures.found)

pub returns-then-has-clause-ordered : goal.returns-then-has-clause-ordered
returns-then-has-clause-ordered g c = ascending_filter (begins c.args.self.now.front.now) (g.A.Sorted.rows c.args.self.now.a.now) c.has.ensures.ordered

pub returns-in-Some-clause-next : goal.returns-in-Some-clause-next
returns-in-Some-clause-next g c =
    let front = c.args.self.now.front.now in
    let rows = g.A.Sorted.rows c.args.self.now.a.now in
    let bound = option_copied c.args.bound in
    let starts : Starts front rows bound (option_copied c.if-is_past.start) = elim c.if-is_past.branch [
      | then-is_past+else-has w ↦ subst (Starts front rows bound) (sym (ap option_copied w.start-is)) (starts_at_front front rows bound (sym w.if-is_past.ensures) (sym w.if-has.ensures.found))
      | else-is_past w ↦ subst (Starts front rows bound) (sym (ap option_copied w.start-is)) (starts_at_bound front rows bound (sym w.if-is_past.ensures))
    ] in
    found_begun front rows bound (option_copied c.if-is_past.start) c.in-Some.row.now c.above.ensures.ordered starts (sym c.in-Some.ensures.next) (sym c.if-begins.ensures)

pub returns-in-Some-clause-ordered : goal.returns-in-Some-clause-ordered
returns-in-Some-clause-ordered g c = ascending_filter (begins c.args.self.now.front.now) (g.A.Sorted.rows c.args.self.now.a.now) c.above.ensures.ordered

pub returns-in_default-clause-next : goal.returns-in_default-clause-next
returns-in_default-clause-next g c =
    let front = c.args.self.now.front.now in
    let rows = g.A.Sorted.rows c.args.self.now.a.now in
    let bound = option_copied c.args.bound in
    let starts : Starts front rows bound (option_copied c.if-is_past.start) = elim c.if-is_past.branch [
      | then-is_past+else-has w ↦ subst (Starts front rows bound) (sym (ap option_copied w.start-is)) (starts_at_front front rows bound (sym w.if-is_past.ensures) (sym w.if-has.ensures.found))
      | else-is_past w ↦ subst (Starts front rows bound) (sym (ap option_copied w.start-is)) (starts_at_bound front rows bound (sym w.if-is_past.ensures))
    ] in
    elim c.in_default.branch [
      | in_default-via-in-Some+else-begins w ↦ found_passed front rows bound (option_copied c.if-is_past.start) w.in-Some.row.now c.above.ensures.ordered starts (sym w.in-Some.ensures.next) (sym w.if-begins.ensures)
      | in_default-via-in_default w ↦ found_none front rows bound (option_copied c.if-is_past.start) c.above.ensures.ordered starts (sym w.in_default.ensures.next)
    ]

pub returns-in_default-clause-ordered : goal.returns-in_default-clause-ordered
returns-in_default-clause-ordered g c = ascending_filter (begins c.args.self.now.front.now) (g.A.Sorted.rows c.args.self.now.a.now) c.above.ensures.ordered
