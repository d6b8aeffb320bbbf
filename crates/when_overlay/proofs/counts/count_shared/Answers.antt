use Rattle.std.proofs.Common.{Bool, take, length, ap, ◌∙◌, arith}
use mir.Val.{bool_byte}
use Rattle.std.specs.List.{filter}
use Rattle.hera_sets.specs.Rows.{Row, holds}
use Rattle.when_overlay.proofs.Changing.{count_more, few_up_to, byte_few, next_place}
use Rattle.when_overlay.proofs.counts.count_shared.Goals as goal

pub overflow_add-count : goal.overflow_add-count
overflow_add-count g c =
    let few = few_up_to (holds (g.S.Sorted.rows c.args.rows.now)) c.loop-i.i c.args.named.now in
    let one = byte_few c.is_among-shared.result in
    omega (arith, few.0, one, c.from-count.ensures, c.loop-i.invariant, c.loop-i-test.true, c.len-i-end.type_inv)

pub loop-i-preserved : goal.loop-i-preserved
loop-i-preserved g c =
    let t : Row → Bool = holds (g.S.Sorted.rows c.args.rows.now) in
    let more = count_more t c.loop-i.i c.args.named.now c.row.result.now c.row.ensures in
    let one = c.from-count.ensures ∙ ap bool_byte c.is_among-shared.ensures.found in
    let place = ap (λ k. length (filter t (take k c.args.named.now))) (next_place c.loop-i.i) in
    omega (arith, c.loop-i.invariant, more, one, place)

pub returns-clause-few : goal.returns-clause-few
returns-clause-few g c =
    let few = few_up_to (holds (g.S.Sorted.rows c.args.rows.now)) c.loop-i.i c.args.named.now in
    omega (arith, few.1, c.loop-i.invariant)
