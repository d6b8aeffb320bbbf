use Rattle.std.proofs.Common.{◌+◌, arith}
use Rattle.hera_fits.proofs.PlaceTests.{counted, counted_few, counted_all}
use Rattle.hera_fits.proofs.places.lacking_len.Goals as goal

pub overflow_add-count : goal.overflow_add-count
overflow_add-count c =
    let sum = counted c.args.left.now c.args.right.now c.loop-i.count c.loop-i.i c.attr.result.now c.bytes.result.now c.lacks.result c.one_if-count.result c.attr.ensures.attr c.bytes.ensures.bytes c.lacks.ensures c.one_if-count.ensures c.loop-i.invariant in
    let few = counted_few c.args.left.now c.args.right.now (c.loop-i.count + c.one_if-count.result) (c.loop-i.i + 1) sum c.len-i-end.ensures.valid.few in
    omega (arith, few)

pub loop-i-preserved : goal.loop-i-preserved
loop-i-preserved c =
    counted c.args.left.now c.args.right.now c.loop-i.count c.loop-i.i c.attr.result.now c.bytes.result.now c.lacks.result c.one_if-count.result c.attr.ensures.attr c.bytes.ensures.bytes c.lacks.ensures c.one_if-count.ensures c.loop-i.invariant

pub returns : goal.returns
returns c = record {
  count = counted_all c.args.left.now c.args.right.now c.loop-i.count c.loop-i.i (omega (arith, c.loop-i-test.false, c.len-i-end.ensures.count)) c.loop-i.invariant;
  few = counted_few c.args.left.now c.args.right.now c.loop-i.count c.loop-i.i c.loop-i.invariant c.len-i-end.ensures.valid.few;
}
