use Rattle.std.proofs.Common.{List, length, map, sym, subst}
use Rattle.hera_typed.specs.declared.notes.SlotNote.{SlotNote}
use Rattle.hera_typed.specs.Notes.{slot_note}
use Rattle.hera_verify.specs.Looks.{Finds}
use Rattle.hera_verify.specs.Slots.{FirstSlotsFineTo}
use Rattle.hera_verify.proofs.Body_looks.{note_there}
use Rattle.hera_verify.proofs.Spanning.{none_past}
use Rattle.hera_verify.proofs.Slot_looks.{body_slots, no_body_slots}
use Rattle.hera_verify.proofs.slots.look_at_body.Goals as goal

pub returns-in-Some-get : goal.returns-in-Some-get
returns-in-Some-get c =
    let code = c.args.code.now in
    let width = c.args.sources.now.width in
    let noted = note_there c.args.notes.now.bodies.items c.deref.result.now c.args.k c.in-Some-get.note.now c.deref.ensures.value c.in-Some-get.ensures.lookup.0 c.in-Some-get.ensures.lookup.1 in
    body_slots code c.args.notes.now.bodies.items width c.args.k c.in-Some.body c.in-Some-get.note.now c.look_at_slots.result (sym c.in-Some.ensures) noted
    (subst (λ (l : List SlotNote). Finds (FirstSlotsFineTo code width c.args.k c.in-Some.body.params (map slot_note l) (length (map slot_note l))) c.look_at_slots.result) c.deref-in-Some-get.ensures.value (c.look_at_slots.ensures c.args.k c.requires.there c.requires.reach))

pub returns-in-None : goal.returns-in-None
returns-in-None c = no_body_slots c.args.code.now c.args.notes.now.bodies.items c.args.sources.now.width c.args.k (none_past c.args.notes.now.bodies.items c.deref.result.now c.args.k c.deref.ensures.value c.in-None.ensures.lookup.0)
