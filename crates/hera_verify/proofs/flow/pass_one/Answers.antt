use Rattle.std.proofs.Common.{refl}
use Rattle.hera_host.specs.Tables.{specs_of}
use Rattle.hera_typed.specs.Notes.{notes_of}
use Rattle.hera_verify.proofs.Flowing.{passes}
use Rattle.hera_verify.proofs.flow.pass_one.Goals as goal

pub returns : goal.returns
returns g c =
    let walked = c.requires.walked in
    passes c.args.around.now.code.now c.args.around.now.relations.now (specs_of c.args.around.now.hosts.now.names) (notes_of c.args.around.now.notes.now) c.args.a c.args.instr.now walked.0 c.step.new.stacks c.step.new.table _ c.in_ok-on.on c.requires.here walked.1.passes refl c.place_at-place.ensures.place
    (c.gathers_behind-walker.ensures c.args.around.now.relations.now (specs_of c.args.around.now.hosts.now.names) c.place_at-place.ensures.home) (c.in_ok-on.ensures.kept walked.0 walked.1.table) (c.in_ok-on.ensures.steps walked.0 walked.1.table)
