-- Notes as plain values, attribute names left out.
use Rattle.std.specs.Prelude.{List, map}
use Rattle.hera_meaning.specs.Forms.{form_of}
use Rattle.hera_meaning.specs.Shapes.{form_if, kinds_if}
use Rattle.hera_typed.specs.declared.notes.SlotNote.{SlotNote}
use Rattle.hera_typed.specs.declared.notes.BodyNote.{BodyNote}
use Rattle.hera_typed.specs.declared.notes.Notes.{Notes}
use Rattle.hera_typed.specs.Effects.{Slot_note, Body_note}

abbrev pub slot_note : SlotNote → Slot_note
slot_note n = record { form = form_of n.shape; from = n.from; to = n.to; gathers = kinds_if n.gathers }

abbrev pub body_note : BodyNote → Body_note
body_note n = record { result = form_if n.result; slots = map slot_note n.slots.items }

abbrev pub notes_of : Notes → List Body_note
notes_of notes = map body_note notes.bodies.items
