use Rattle.std.proofs.Common.{subst}
use Rattle.hera_host.specs.Tables.{specs_of}
use Rattle.hera_typed.specs.Notes.{notes_of}
use Rattle.hera_typed.specs.Effects.{effect}
use Rattle.hera_effects.specs.Ways.{Both, AreWays}
use Rattle.hera_stacks.proofs.Stacking.{operands_grow}
use Rattle.hera_verify.proofs.Calling.{left_grow}
use Rattle.hera_verify.proofs.calls.look_at.Goals as goal

pub returns-clause-kept : goal.returns-clause-kept
returns-clause-kept g c is at p same replaces spot h =
    let around = c.args.around.now in
    let before = c.args.stacks.now in
    let after = c.effect.new.stacks in
    let grows = c.in_ok-ways.ensures.grows in
    c.in_ok-remember.ensures around.code.now around.relations.now (specs_of around.hosts.now.names) (notes_of around.notes.now) after is c.args.k c.args.a at p replaces
    (left_grow around.code.now around.relations.now (specs_of around.hosts.now.names) (notes_of around.notes.now) before after is c.args.left.now grows h)
    (operands_grow before after p.operands c.args.spot.operands grows spot.operands)
    (subst (λ x. Both (AreWays after) c.in_ok-ways.ways (effect around.code.now around.relations.now (specs_of around.hosts.now.names) (notes_of around.notes.now) c.args.k c.args.a x p)) same (c.in_ok-ways.ensures.effect p spot))
