use Rattle.std.proofs.Common.{sym, subst, refl}
use Rattle.hera_host.specs.Tables.{specs_of}
use Rattle.hera_typed.specs.Notes.{notes_of}
use Rattle.std.specs.Prelude.{IfOk}
use Rattle.hera_typed.specs.Effects.{effect}
use Rattle.hera_effects.specs.Ways.{Both, AreWays}
use Rattle.hera_effects.proofs.effects.effect.Goals as goal

pub returns-in-Prim-clause-effect : goal.returns-in-Prim-clause-effect
returns-in-Prim-clause-effect g c p is = subst (λ x. IfOk c.prim.result (λ r. Both (AreWays c.prim.new.stacks) r (effect c.args.around.now.code.now c.args.around.now.relations.now (specs_of c.args.around.now.hosts.now.names) (notes_of c.args.around.now.notes.now) c.args.k c.args.a x p))) (sym c.in-Prim.is) (c.prim.ensures.effect c.args.k c.args.a c.in-Prim.field-1 p refl is)

pub returns-in-Call-clause-effect : goal.returns-in-Call-clause-effect
returns-in-Call-clause-effect g c p is = subst (λ x. IfOk c.call.result (λ r. Both (AreWays c.call.new.stacks) r (effect c.args.around.now.code.now c.args.around.now.relations.now (specs_of c.args.around.now.hosts.now.names) (notes_of c.args.around.now.notes.now) c.args.k c.args.a x p))) (sym c.in-Call.is) (c.call.ensures.effect c.args.k c.args.a p refl is)

pub returns-in-Enter-clause-effect : goal.returns-in-Enter-clause-effect
returns-in-Enter-clause-effect g c p is = subst (λ x. IfOk c.enter.result (λ r. Both (AreWays c.args.stacks.now) r (effect c.args.around.now.code.now c.args.around.now.relations.now (specs_of c.args.around.now.hosts.now.names) (notes_of c.args.around.now.notes.now) c.args.k c.args.a x p))) (sym c.in-Enter.is) (c.enter.ensures c.args.around.now.code.now c.args.around.now.relations.now (specs_of c.args.around.now.hosts.now.names) (notes_of c.args.around.now.notes.now) c.args.k c.args.a c.in-Enter.field-0 p refl is)

pub returns-in-Leave-clause-effect : goal.returns-in-Leave-clause-effect
returns-in-Leave-clause-effect g c p is = subst (λ x. Both (AreWays c.args.stacks.now) c.leave.result (effect c.args.around.now.code.now c.args.around.now.relations.now (specs_of c.args.around.now.hosts.now.names) (notes_of c.args.around.now.notes.now) c.args.k c.args.a x p)) (sym c.in-Leave.is) (c.leave.ensures c.args.stacks.now c.args.around.now.code.now c.args.around.now.relations.now (specs_of c.args.around.now.hosts.now.names) (notes_of c.args.around.now.notes.now) c.args.k c.args.a p refl is)

pub returns-in-Keep-clause-effect : goal.returns-in-Keep-clause-effect
returns-in-Keep-clause-effect g c p is = subst (λ x. Both (AreWays c.args.stacks.now) c.keep.result (effect c.args.around.now.code.now c.args.around.now.relations.now (specs_of c.args.around.now.hosts.now.names) (notes_of c.args.around.now.notes.now) c.args.k c.args.a x p)) (sym c.in-Keep.is) (c.keep.ensures c.args.around.now.code.now c.args.around.now.relations.now (specs_of c.args.around.now.hosts.now.names) (notes_of c.args.around.now.notes.now) c.args.k c.args.a p refl is)

pub returns-in-Gather-clause-effect : goal.returns-in-Gather-clause-effect
returns-in-Gather-clause-effect g c p is = subst (λ x. Both (AreWays c.args.stacks.now) c.gather.result (effect c.args.around.now.code.now c.args.around.now.relations.now (specs_of c.args.around.now.hosts.now.names) (notes_of c.args.around.now.notes.now) c.args.k c.args.a x p)) (sym c.in-Gather.is) (c.gather.ensures c.args.around.now.code.now c.args.around.now.relations.now (specs_of c.args.around.now.hosts.now.names) (notes_of c.args.around.now.notes.now) c.args.k c.args.a p refl is)

pub returns-in-Yield-clause-effect : goal.returns-in-Yield-clause-effect
returns-in-Yield-clause-effect g c p is = subst (λ x. IfOk c.yield_walk.result (λ r. Both (AreWays c.yield_walk.new.stacks) r (effect c.args.around.now.code.now c.args.around.now.relations.now (specs_of c.args.around.now.hosts.now.names) (notes_of c.args.around.now.notes.now) c.args.k c.args.a x p))) (sym c.in-Yield.is) (c.yield_walk.ensures.effect c.args.around.now.code.now c.args.around.now.relations.now (specs_of c.args.around.now.hosts.now.names) (notes_of c.args.around.now.notes.now) c.args.k c.args.a p refl is)

pub returns-in-Drop-clause-effect : goal.returns-in-Drop-clause-effect
returns-in-Drop-clause-effect g c p is = subst (λ x. Both (AreWays c.args.stacks.now) c.drop_walk.result (effect c.args.around.now.code.now c.args.around.now.relations.now (specs_of c.args.around.now.hosts.now.names) (notes_of c.args.around.now.notes.now) c.args.k c.args.a x p)) (sym c.in-Drop.is) (c.drop_walk.ensures c.args.around.now.code.now c.args.around.now.relations.now (specs_of c.args.around.now.hosts.now.names) (notes_of c.args.around.now.notes.now) c.args.k c.args.a p refl is)
