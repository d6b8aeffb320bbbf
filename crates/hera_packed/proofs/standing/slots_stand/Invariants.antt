use Rattle.std.proofs.Common.{take}
use Rattle.std.specs.List.{AllByRecursion}
use Rattle.hera_code_writer.specs.Writable.{SlotStands}
use Rattle.hera_packed.proofs.standing.slots_stand.Given as goal

abbrev pub invariant-loop-slot : goal.invariant-loop-slot
invariant-loop-slot l = AllByRecursion SlotStands (take l.slot-index l.slots)
