-- Notes that have the shapes handed in.
use Rattle.std.specs.Prelude.{◌≡◌, ℕ, List, length, Some, slice_get}
use Rattle.hera_meaning.specs.Trees.{Body_tree}
use Rattle.hera_typed.specs.declared.notes.SlotNote.{SlotNote}
use Rattle.hera_typed.specs.declared.notes.BodyNote.{BodyNote}
use Rattle.hera_typed.specs.declared.notes.Notes.{Notes}
use Rattle.hera_meaning.specs.declared.shapes.BodyShapes.{BodyShapes}

-- an entry for each slot of the body
pub record HasSlots (slots : ℕ) (s : BodyShapes) : Type 0 where
  pub shapes : length s.slots.items ≡ slots
  pub gathers : length s.gathers.items ≡ slots

-- an entry for each body of the program, and in it one for each of its slots
pub record HasBodies (bodies : List Body_tree) (shapes : List BodyShapes) : Type 0 where
  pub many : length shapes ≡ length bodies
  pub slots : (k : ℕ) (b : Body_tree) (s : BodyShapes) → slice_get bodies k ≡ Some b → slice_get shapes k ≡ Some s → HasSlots b.slots s

-- the shape and the gathered schema of slot i
pub record IsSlotOf (s : BodyShapes) (i : ℕ) (n : SlotNote) : Type 0 where
  pub shape : slice_get s.slots.items i ≡ Some n.shape
  pub gathers : slice_get s.gathers.items i ≡ Some n.gathers

-- the result, and each slot
pub record IsBodyOf (s : BodyShapes) (n : BodyNote) : Type 0 where
  pub result : n.result ≡ s.result
  pub many : length n.slots.items ≡ length s.slots.items
  pub slots : (i : ℕ) (m : SlotNote) → slice_get n.slots.items i ≡ Some m → IsSlotOf s i m

-- each body
pub record AreGiven (shapes : List BodyShapes) (notes : Notes) : Type 0 where
  pub many : length notes.bodies.items ≡ length shapes
  pub bodies : (k : ℕ) (n : BodyNote) (s : BodyShapes) → slice_get notes.bodies.items k ≡ Some n → slice_get shapes k ≡ Some s → IsBodyOf s n
