use Rattle.std.proofs.Common.{map, arith}
use Rattle.hera_typed.specs.Notes.{slot_note}
use Rattle.hera_verify.proofs.Spanning.{at_index, map_at, map_long}
use Rattle.hera_verify.proofs.Slot_looks.{slots_on, slots_end}
use Rattle.hera_verify.proofs.slots.look_at_slots.Goals as goal

pub loop-i-preserved : goal.loop-i-preserved
loop-i-preserved c k lt reach =
    let slots = c.args.slots.now in
    let one = c.index-slots-i.result in
    rw c.least-found.ensures (slots_on c.args.code.now c.args.sources.now.width k c.args.first c.loop-i.i (map slot_note slots) (slot_note one) c.loop-i.found c.look_at.result c.loop-i.auto.i
    (map_at slot_note slots c.loop-i.i one (at_index slots c.loop-i.i one c.loop-i-test.true c.index-slots-i.is)) (c.loop-i.invariant k lt reach) (c.look_at.ensures k lt reach))

pub returns : goal.returns
returns c k lt reach =
    let slots = c.args.slots.now in
    let long = map_long slot_note slots in
    slots_end c.args.code.now c.args.sources.now.width k c.args.first c.loop-i.i (map slot_note slots) c.loop-i.found (omega (arith, long, c.loop-i-test.false)) c.loop-i.auto.i (c.loop-i.invariant k lt reach)
