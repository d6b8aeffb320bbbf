use Rattle.std.proofs.Common.{◌≡◌, ◌∙◌, sym, subst, IfOk}
use Rattle.hera_meaning.specs.Deltas.{Delta}
use Rattle.smash_merge.proofs.JointWalk.{merge_left_fail, merge_right_fail, merge_known}
use Rattle.smash_merge.proofs.merge.Goals as goal

pub returns-then-is_fail : goal.returns-then-is_fail
returns-then-is_fail c = c.fail.ensures ∙ sym (merge_left_fail c.args.a.now c.args.b.now (sym c.if-is_fail.ensures.fails))

pub returns-then-is_fail-2 : goal.returns-then-is_fail-2
returns-then-is_fail-2 c = c.fail-then-is_fail-2.ensures ∙ sym (merge_right_fail c.args.a.now c.args.b.now (sym c.if-is_fail-2.ensures.fails))

pub returns : goal.returns
returns c = subst (λ (d : Delta). IfOk c.joint.result (λ both. both ≡ d)) (sym (merge_known c.args.a.now c.args.b.now (sym c.if-is_fail.ensures.fails) (sym c.if-is_fail-2.ensures.fails))) c.joint.ensures
