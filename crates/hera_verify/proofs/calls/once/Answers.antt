use Rattle.std.proofs.Common.{sym, subst, Some}
use Rattle.hera_host.specs.Tables.{specs_of}
use Rattle.hera_typed.specs.Notes.{notes_of}
use Rattle.hera_typed.specs.Effects.{effect}
use Rattle.hera_effects.specs.Ways.{Both, AreWays}
use Rattle.hera_verify.proofs.calls.once.Goals as goal

pub returns-in-Some-clause-effect : goal.returns-in-Some-clause-effect
returns-in-Some-clause-effect g c is at p same spot h =
    let around = c.args.around.now in
    subst (λ x. Both (AreWays c.args.stacks.now) (Some c.in-Some.ways) (effect around.code.now around.relations.now (specs_of around.hosts.now.names) (notes_of around.notes.now) c.args.k c.args.a x p)) (sym same)
    (c.in-Some.ensures around.code.now around.relations.now (specs_of around.hosts.now.names) (notes_of around.notes.now) c.args.stacks.now is c.args.k at p h spot)
