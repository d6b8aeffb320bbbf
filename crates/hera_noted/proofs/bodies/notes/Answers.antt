-- The notes are those of the bodies; the law is that of `Law`.
use Rattle.std.proofs.lemmas.Result.{IfOk-weaker}
use Rattle.hera_meaning.specs.Plain.{program_of}
use Rattle.hera_noted.specs.Given.{AreGiven}
use Rattle.hera_noted.specs.Ranged.{AreNoted}
use Rattle.hera_noted.proofs.Told.{given_of, TypedWith, law_of, bodies_of, slots_of}
use Rattle.hera_noted.proofs.bodies.notes.Goals as goal

pub all_notes-requires-clause-bodies : goal.all_notes-requires-clause-bodies
all_notes-requires-clause-bodies c = bodies_of (program_of c.args.program.now) c.args.code.now c.args.shapes.now c.requires.code c.requires.shapes

pub all_notes-requires-clause-slots : goal.all_notes-requires-clause-slots
all_notes-requires-clause-slots c = slots_of (program_of c.args.program.now).bodies c.args.shapes.now c.requires.shapes

pub returns-clause-given : goal.returns-clause-given
returns-clause-given c = IfOk-weaker c.all_notes.result (AreNoted c.args.code.now c.args.shapes.now) (AreGiven c.args.shapes.now) (λ n h. given_of c.args.code.now c.args.shapes.now n h) c.all_notes.ensures

pub returns-clause-typed : goal.returns-clause-typed
returns-clause-typed c =
    IfOk-weaker c.all_notes.result (AreNoted c.args.code.now c.args.shapes.now) (TypedWith (program_of c.args.program.now) c.args.code.now c.args.shapes.now) (λ n h. law_of (program_of c.args.program.now) c.args.code.now c.args.shapes.now n c.requires.code c.requires.shapes h) c.all_notes.ensures
