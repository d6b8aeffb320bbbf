use Rattle.std.proofs.Common.{sym, subst, Some, length, ◌<◌}
use Rattle.hera_host.specs.Tables.{specs_of}
use Rattle.hera_typed.specs.Notes.{notes_of}
use Rattle.hera_typed.specs.Effects.{effect}
use Rattle.hera_effects.specs.Ways.{Both, AreWays}
use Rattle.hera_verify.specs.Slots.{IsReach}
use Rattle.hera_verify.proofs.Tabling.{table_grows}
use Rattle.hera_verify.proofs.Flowing.{follows_some}
use Rattle.hera_verify.proofs.flow.from_spot.Goals as goal

pub returns-in-Some-clause-follows : goal.returns-in-Some-clause-follows
returns-in-Some-clause-follows g c f p is spot =
    let nodes = c.effect_once.new.stacks in
    let home = sym c.requires.home in
    let own = c.in_ok-ways.ensures.effect p spot in
    follows_some c.args.around.now.code.now c.args.around.now.relations.now (specs_of c.args.around.now.hosts.now.names) (notes_of c.args.around.now.notes.now) nodes c.follow_all.new.self c.follow_all.result c.in-Some.ways c.args.a c.args.instr.now p f
    (subst (λ k. Both (AreWays nodes) (Some c.in-Some.ways) (effect c.args.around.now.code.now c.args.around.now.relations.now (specs_of c.args.around.now.hosts.now.names) (notes_of c.args.around.now.notes.now) k c.args.a c.args.instr.now p)) home (subst (λ o. Both (AreWays nodes) o (effect c.args.around.now.code.now c.args.around.now.relations.now (specs_of c.args.around.now.hosts.now.names) (notes_of c.args.around.now.notes.now) c.args.place.body c.args.a c.args.instr.now p)) c.in-Some.is own))
    (λ gs w. c.follow_all.ensures nodes f gs c.args.around.now.code.now c.args.around.now.relations.now (specs_of c.args.around.now.hosts.now.names) (notes_of c.args.around.now.notes.now) c.tell_shared.ensures (table_grows c.args.stacks.now (length c.args.around.now.code.now.instrs) nodes c.args.table.now f c.in_ok-ways.ensures.grows is) w
    (subst (λ k. k < length c.args.around.now.code.now.bodies) home c.requires.there) (subst (λ k. IsReach c.args.around.now.code.now k c.args.place.reach) home c.requires.reach))
