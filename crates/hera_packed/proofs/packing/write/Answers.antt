use Rattle.std.proofs.Common.{List, subst}
use Rattle.hera_code_file.specs.Fitting.{Each}
use Rattle.hera_typed.specs.declared.notes.BodyNote.{BodyNote}
use Rattle.hera_packed.specs.Writing.{NoteStands}
use Rattle.hera_packed.proofs.Noting.{each_stands}
use Rattle.hera_packed.proofs.packing.write.Goals as goal

pub write_code-requires-clause-stands : goal.write_code-requires-clause-stands
write_code-requires-clause-stands c =
    let code = c.args.code.now in
    let notes = c.args.notes.now.bodies.items in
    record {
      relations = c.requires.catalogue;
      bodies = each_stands code.bodies notes c.requires.noted (subst (λ (ns : List BodyNote). Each NoteStands ns) c.deref.ensures.value (c.notes_stand.ensures c.if-notes_stand.true));
      instrs = c.instrs_stand.ensures c.if-instrs_stand.true;
    }
