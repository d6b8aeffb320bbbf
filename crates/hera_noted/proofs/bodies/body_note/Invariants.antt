-- the slots so far have their notes
use Rattle.std.proofs.Common.{◌≡◌, ℕ, Some, length}
use Rattle.std.specs.Prelude.{slice_get}
use Rattle.hera_typed.specs.declared.notes.SlotNote.{SlotNote}
use Rattle.hera_noted.specs.Ranged.{IsSlotNoted}
use Rattle.hera_noted.proofs.bodies.body_note.Given as goal

abbrev pub invariant-loop-i : goal.invariant-loop-i
invariant-loop-i l = (length l.slots.items ≡ l.i) × ((j : ℕ) (m : SlotNote) → slice_get l.slots.items j ≡ Some m → IsSlotNoted l.code l.k l.shapes j m)
