use Rattle.std.proofs.Common.{◌≡◌, ◌-◌, ◌+◌, suc, [], sym, subst, ◌∙◌, arith}
use Rattle.hera_effects.proofs.Effecting.{IsTaking, takes_first, takes_more, takes_none}
use Rattle.hera_effects.proofs.cuts.cut_off.Goals as goal

pub loop-i-init : goal.loop-i-init
loop-i-init c ss h =
    let st = c.args.stacks.now in
    let all : c.args.count ≡ c.args.count - 0 = omega arith in
    subst (λ xs. IsTaking st xs c.args.operands (c.args.count - 0) c.args.count ss) (sym c.new-args.ensures.items)
    (subst (λ n. IsTaking st [] c.args.operands n c.args.count ss) all (takes_first st c.args.operands c.args.count ss h))

pub returns-in_default : goal.returns-in_default
returns-in_default c ss h =
    let more : c.args.count - c.loop-i.i ≡ suc (c.args.count - (c.loop-i.i + 1)) = omega (arith, c.loop-i-test.true) in
    takes_none c.args.stacks.now c.loop-i.args.items c.loop-i.rest (c.args.count - (c.loop-i.i + 1)) (c.args.count - c.loop-i.i) c.args.count ss more (sym c.first.ensures ∙ c.in_default.is) (c.loop-i.invariant ss h)

pub loop-i-preserved : goal.loop-i-preserved
loop-i-preserved c ss h =
    let more : c.args.count - c.loop-i.i ≡ suc (c.args.count - (c.loop-i.i + 1)) = omega (arith, c.loop-i-test.true) in
    subst (λ xs. IsTaking c.args.stacks.now xs c.in-Some.node.below (c.args.count - (c.loop-i.i + 1)) c.args.count ss) (sym c.in_ok-push.ensures.items)
    (takes_more c.args.stacks.now c.loop-i.args.items c.loop-i.rest (c.args.count - (c.loop-i.i + 1)) (c.args.count - c.loop-i.i) c.args.count ss c.in-Some.node more (sym c.in-Some.ensures) (c.loop-i.invariant ss h))
