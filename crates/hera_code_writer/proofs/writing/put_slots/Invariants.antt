use Rattle.std.specs.Prelude.{◌≡◌, ◌++◌, take, length}
use Rattle.std.specs.List.{flat_map, AllByRecursion}
use Rattle.hera_code_file.specs.Printing.{word, slot_bytes}
use Rattle.hera_code_file.specs.Fitting.{SlotFits}
use Rattle.hera_code_writer.proofs.writing.put_slots.Given as goal

abbrev pub invariant-loop-slot : goal.invariant-loop-slot
invariant-loop-slot l = record {
  text : l.out.items ≡ l.fn.out.items ++ (word (length l.slots) ++ flat_map slot_bytes (take l.slot-index l.slots));
  fits : AllByRecursion SlotFits (take l.slot-index l.slots);
}
