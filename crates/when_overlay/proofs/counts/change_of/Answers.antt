use Rattle.std.proofs.Common.{List, length, ap, sym, arith}
use Rattle.std.specs.List.{filter}
use Rattle.hera_sets.specs.Rows.{Row, holds}
use Rattle.when_overlay.proofs.Changing.{change_sums}
use Rattle.when_overlay.proofs.counts.change_of.Goals as goal

pub returns : goal.returns
returns g c =
    let rows = g.S.Sorted.rows c.args.rows.now in
    let sums = change_sums c.args.rel.0 rows c.args.delta.now c.has-ordered.ensures.ordered c.part-plus.ensures.valid (sym c.if-is_fail.ensures.fails) in
    let plus = ap (λ (ys : List Row). length ys) c.part-plus.ensures.rows in
    let old = ap (λ (ys : List Row). length (filter (holds rows) ys)) c.part-plus.ensures.rows in
    let out = ap (λ (ys : List Row). length (filter (holds rows) ys)) c.part.ensures.rows in
    omega (arith, sums, plus, old, out, c.len.ensures.count, c.count_shared.ensures.count, c.count_shared.ensures.few, c.count_shared-taken_out.ensures.count)
