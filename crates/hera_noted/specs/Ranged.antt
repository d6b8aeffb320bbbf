-- Notes with the ranges of their slots.
use Rattle.std.specs.Prelude.{◌≡◌, ℕ, List, length, Some, slice_get}
use Rattle.hera_code.specs.declared.instrs.BodyInfo.{BodyInfo}
use Rattle.hera_code.specs.declared.instrs.Code.{Code}
use Rattle.hera_typed.specs.declared.notes.SlotNote.{SlotNote}
use Rattle.hera_typed.specs.declared.notes.BodyNote.{BodyNote}
use Rattle.hera_typed.specs.declared.notes.Notes.{Notes}
use Rattle.hera_meaning.specs.declared.shapes.BodyShapes.{BodyShapes}
use Rattle.hera_noted.specs.Spans.{end_of, IsRange}
use Rattle.hera_noted.specs.Given.{IsSlotOf, IsBodyOf}

-- the note has the range of slot i of body k
abbrev pub HasRange : Code → (k i : ℕ) → SlotNote → Type 0
HasRange code k i n = (info : BodyInfo) → slice_get code.bodies k ≡ Some info → IsRange code.instrs info.at (end_of code k) i n.from n.to

pub record IsSlotNoted (code : Code) (k : ℕ) (s : BodyShapes) (i : ℕ) (n : SlotNote) : Type 0 where
  pub given : IsSlotOf s i n
  pub range : HasRange code k i n

pub record IsBodyNoted (code : Code) (k : ℕ) (s : BodyShapes) (n : BodyNote) : Type 0 where
  pub given : IsBodyOf s n
  pub ranges : (i : ℕ) (m : SlotNote) → slice_get n.slots.items i ≡ Some m → HasRange code k i m

pub record AreNoted (code : Code) (shapes : List BodyShapes) (notes : Notes) : Type 0 where
  pub many : length notes.bodies.items ≡ length shapes
  pub bodies : (k : ℕ) (n : BodyNote) (s : BodyShapes) → slice_get notes.bodies.items k ≡ Some n → slice_get shapes k ≡ Some s → IsBodyNoted code k s n
