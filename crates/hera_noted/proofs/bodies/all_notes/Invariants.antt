-- the bodies so far have their notes
use Rattle.std.proofs.Common.{◌≡◌, ℕ, Some, length}
use Rattle.std.specs.Prelude.{slice_get}
use Rattle.hera_typed.specs.declared.notes.BodyNote.{BodyNote}
use Rattle.hera_meaning.specs.declared.shapes.BodyShapes.{BodyShapes}
use Rattle.hera_noted.specs.Ranged.{IsBodyNoted}
use Rattle.hera_noted.proofs.bodies.all_notes.Given as goal

abbrev pub invariant-loop-k : goal.invariant-loop-k
invariant-loop-k l = (length l.bodies.items ≡ l.k) × ((j : ℕ) (n : BodyNote) (s : BodyShapes) → slice_get l.bodies.items j ≡ Some n → slice_get l.shapes j ≡ Some s → IsBodyNoted l.code j s n)
