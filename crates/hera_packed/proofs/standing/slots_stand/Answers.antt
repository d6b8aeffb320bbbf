use Rattle.hera_code_writer.specs.Writable.{SlotStands}
use Rattle.hera_code_writer.proofs.Stands.{all_more, all_done}
use Rattle.hera_packed.proofs.standing.slots_stand.Goals as goal

pub loop-slot-preserved : goal.loop-slot-preserved
loop-slot-preserved c = all_more SlotStands c.args.slots.now c.loop-slot.slot-index c.slot-item.result c.loop-slot-test.true c.slot-item.is c.loop-slot.invariant (c.slot_stands.ensures c.if-not-slot_stands.false)

pub returns : goal.returns
returns c = λ _. (c.is_word.ensures c.if-not-is_word.false, all_done SlotStands c.args.slots.now c.loop-slot.slot-index c.loop-slot-test.false c.loop-slot.invariant)
