use Rattle.std.proofs.Common.{subst}
use Rattle.hera_host.specs.Tables.{specs_of}
use Rattle.hera_typed.specs.Notes.{notes_of}
use Rattle.hera_effects.specs.Ways.{Both}
use Rattle.hera_effects.specs.Plain.{IsPlain, plain}
use Rattle.hera_effects.proofs.Plainly.{plain_is, plainly_so}
use Rattle.hera_effects.proofs.effects.plainly.Goals as goal

pub returns-in-Some-clause-effect : goal.returns-in-Some-clause-effect
returns-in-Some-clause-effect g c p pl is =
    let own = plain c.args.around.now.code.now c.args.around.now.relations.now (specs_of c.args.around.now.hosts.now.names) (notes_of c.args.around.now.notes.now) c.args.k c.args.a c.args.instr.now in
    plainly_so c.move_on.result c.move_on.new.stacks c.in-Some.plain own _ p (plain_is c.args.around.now.code.now c.args.around.now.relations.now (specs_of c.args.around.now.hosts.now.names) (notes_of c.args.around.now.notes.now) c.args.k c.args.a c.args.instr.now p pl)
    (subst (λ o. Both IsPlain o own) c.in-Some.is c.in_ok-plain.ensures) (λ e h. c.move_on.ensures.moved p e is h)
