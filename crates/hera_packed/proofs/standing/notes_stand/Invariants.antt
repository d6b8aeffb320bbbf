use Rattle.std.proofs.Common.{take}
use Rattle.std.specs.List.{AllByRecursion}
use Rattle.hera_packed.specs.Writing.{NoteStands}
use Rattle.hera_packed.proofs.standing.notes_stand.Given as goal

abbrev pub invariant-loop-note : goal.invariant-loop-note
invariant-loop-note l = AllByRecursion NoteStands (take l.note-index l.notes)
