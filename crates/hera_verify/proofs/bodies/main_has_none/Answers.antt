use Rattle.std.proofs.Common.{sym}
use Rattle.hera_verify.proofs.Body_looks.{says_none, none_said, note_there}
use Rattle.hera_verify.proofs.bodies.main_has_none.Goals as goal

pub returns-in-Some : goal.returns-in-Some
returns-in-Some c =
    let at = sym (note_there c.args.notes.now.bodies.items c.deref.result.now 0 c.in-Some.note.now c.deref.ensures.value c.in-Some.ensures.lookup.0 c.in-Some.ensures.lookup.1) in
    (λ t. says_none c.args.notes.now.bodies.items c.in-Some.note.now at (c.has_none.ensures.0 t), λ h. c.has_none.ensures.1 (none_said c.args.notes.now.bodies.items c.in-Some.note.now at h))
