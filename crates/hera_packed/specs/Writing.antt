-- What is tested of notes before they are written.
use Rattle.std.specs.Prelude.{IfSome}
use Rattle.hera_code_file.specs.Fitting.{Each}
use Rattle.hera_code_writer.specs.Writable.{ShapeStands, SlotStands}
use Rattle.hera_typed.specs.declared.notes.BodyNote.{BodyNote}

-- its names have an identifier's shape, and its slots can be counted
pub record NoteStands (n : BodyNote) : Type 0 where
  pub result : IfSome n.result ShapeStands
  pub slots : Each SlotStands n.slots.items
