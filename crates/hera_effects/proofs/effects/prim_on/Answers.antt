use Rattle.std.proofs.Common.{sym, ap, ◌∙◌, ◌+◌, [], Some}
use Rattle.hera_meaning.specs.Fits.{arity}
use Rattle.hera_typed.specs.Points.{cut}
use Rattle.hera_effects.specs.Operations.{flat_seen_by}
use Rattle.hera_stacks.proofs.Flattened.{kinds_are}
use Rattle.hera_effects.proofs.Effecting.{prim_not, prim_so}
use Rattle.hera_effects.proofs.effects.prim_on.Goals as goal

pub returns-in_default-clause-effect : goal.returns-in_default-clause-effect
returns-in_default-clause-effect g c k a at p next is h =
    let op = c.args.op.now in
    let seen = ap (flat_seen_by c.args.around.now.relations.now op) (sym c.deref.ensures.value) ∙ sym c.in_ok-seen.ensures ∙ c.in_default.is in
    prim_not c.args.stacks.now c.args.stacks.now c.args.around.now.relations.now op (a + 1) p c.args.taken.now (cut (arity op) [] p.operands) h seen

pub returns-clause-effect : goal.returns-clause-effect
returns-clause-effect g c k a at p next is h =
    let op = c.args.op.now in
    let seen = ap (flat_seen_by c.args.around.now.relations.now op) (sym c.deref.ensures.value) ∙ sym c.in_ok-seen.ensures ∙ c.in-Some.is in
    prim_so c.args.stacks.now c.with.new.self c.args.around.now.relations.now op (a + 1) c.in_ok-operands.operands p c.args.spot c.with_operands.result c.on.result c.in-Some.seen c.args.taken.now (cut (arity op) [] p.operands) h (sym c.if-not-is_good_op.ensures) seen
    c.in_ok-operands.ensures.grows is (c.in_ok-operands.ensures.number ∙ ap (λ x. Some (record { seen = c.in-Some.seen; gathers = x; below = c.args.taken.now.rest })) (kinds_are c.no_kinds.result 0 c.no_kinds.ensures))
    c.with_operands.ensures.operands c.with_operands.ensures.walks c.with_operands.ensures.layers (c.on.ensures.first ∙ ap (λ n. Some n) next) c.on.ensures.second c.on.ensures.point
