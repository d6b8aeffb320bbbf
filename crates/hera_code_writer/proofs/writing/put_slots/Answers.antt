use Rattle.std.proofs.Common.{◌++◌, List, ℕ, length, take, sym, ap, ◌∙◌, append_assoc}
use Rattle.std.specs.List.{flat_map}
use Rattle.std.proofs.lemmas.List.Elements.{All-from_recursion}
use Rattle.rel_format.proofs.Fronts.{prints_more}
use Rattle.hera_code_file.specs.Printing.{word, slot_bytes}
use Rattle.hera_code_file.specs.Fitting.{SlotFits}
use Rattle.hera_code_writer.specs.Writable.{SlotStands}
use Rattle.hera_code_writer.proofs.Stands.{all_more, all_done, there}
use Rattle.hera_code_writer.proofs.writing.put_slots.Goals as goal

pub put_slot-requires : goal.put_slot-requires
put_slot-requires c = rw c.slot-item.is (All-from_recursion SlotStands c.args.slots.now c.requires.1 c.loop-slot.slot-index _ c.loop-slot-test.true)

pub loop-slot-preserved : goal.loop-slot-preserved
loop-slot-preserved c =
    let all = c.args.slots.now in
    let x = c.slot-item.result in
    let front = c.args.out.now.items in
    let done = word (length all) ++ flat_map slot_bytes (take c.loop-slot.slot-index all) in
    record {
      text = c.in_ok-put_slot.ensures.text ∙ ap (λ (t : List ℕ). t ++ slot_bytes x) c.loop-slot.invariant.text
          ∙ append_assoc front done (slot_bytes x)
          ∙ ap (λ (t : List ℕ). front ++ (word (length all) ++ t)) (sym (prints_more slot_bytes all c.loop-slot.slot-index x (there all c.loop-slot.slot-index x c.loop-slot-test.true c.slot-item.is)));
      fits = all_more SlotFits all c.loop-slot.slot-index x c.loop-slot-test.true c.slot-item.is c.loop-slot.invariant.fits c.in_ok-put_slot.ensures.fits;
    }

pub returns-clause-fits : goal.returns-clause-fits
returns-clause-fits c = (c.requires.0, all_done SlotFits c.args.slots.now c.loop-slot.slot-index c.loop-slot-test.false c.loop-slot.invariant.fits)
