use Rattle.std.proofs.Common.{sym}
use Rattle.hera_code_writer.proofs.Noted.{body_there, no_body, no_note, note_there, note_past}
use Rattle.hera_code_writer.proofs.writing.noted_at.Goals as goal

pub returns-in-None-clause-none : goal.returns-in-None-clause-none
returns-in-None-clause-none c = no_body c.args.bodies.now c.args.notes.now c.args.k (sym c.in-None.ensures)

pub returns-in-None-get-clause-none : goal.returns-in-None-get-clause-none
returns-in-None-get-clause-none c = no_note c.args.bodies.now c.args.notes.now c.args.k (note_past c.args.notes.now c.args.k c.in-None-get.ensures.lookup.0)

pub returns-in-Some-get-clause-some : goal.returns-in-Some-get-clause-some
returns-in-Some-get-clause-some c = body_there c.args.bodies.now c.args.notes.now c.args.k c.in-Some.info c.in-Some-get.note.now (sym c.in-Some.ensures) (note_there c.args.notes.now c.args.k c.in-Some-get.note.now c.in-Some-get.ensures.lookup.0 c.in-Some-get.ensures.lookup.1)
