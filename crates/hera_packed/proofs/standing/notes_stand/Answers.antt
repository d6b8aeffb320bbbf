use Rattle.hera_packed.specs.Writing.{NoteStands}
use Rattle.hera_code_writer.proofs.Stands.{all_more, all_done}
use Rattle.hera_packed.proofs.standing.notes_stand.Goals as goal

pub loop-note-preserved : goal.loop-note-preserved
loop-note-preserved c = all_more NoteStands c.args.notes.now c.loop-note.note-index c.note-item.result c.loop-note-test.true c.note-item.is c.loop-note.invariant (c.note_stands.ensures c.if-not-note_stands.false)

pub returns : goal.returns
returns c = λ _. (c.is_word.ensures c.if-not-is_word.false, all_done NoteStands c.args.notes.now c.loop-note.note-index c.loop-note-test.false c.loop-note.invariant)
