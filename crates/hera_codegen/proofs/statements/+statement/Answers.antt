use Rattle.std.proofs.Common.{◌++◌, length, sym, ap, ◌∙◌}
use Rattle.std.proofs.lemmas.Result.{on_ok_weaker}
use Rattle.hera_meaning.specs.Plain.{expr_of, command_of, block_in, arms_in}
use Rattle.hera_meaning.proofs.PlainLaws.{command_of-If}
use Rattle.hera_code.specs.Scheme.{command_code}
use Rattle.hera_codegen.specs.Roles.{role_is}
use Rattle.hera_codegen.proofs.Commands.{block_go, while_closed, arm_closed, foreach_closed, arms_go, arms_go_holes, if_closed}
use Rattle.hera_codegen.proofs.statements.+statement.Goals as goal

pub emit_block-loop-stmt-preserved : goal.emit_block-loop-stmt-preserved
emit_block-loop-stmt-preserved t c = block_go _ _ _ _ _ _ _ c.loop-stmt-test.true c.stmt-item.is c.in_ok-emit_stmt.ensures c.loop-stmt.invariant

pub emit_arms-loop-arm-preserved : goal.emit_arms-loop-arm-preserved
emit_arms-loop-arm-preserved t c = (
  arms_go _ _ _ _ _ _ _ _ c.loop-arm-test.true c.arm-item.is c.in_ok-emit_arm.ensures c.in_ok-open_jump.ensures.code c.loop-arm.invariant.0,
  arms_go_holes _ _ _ _ _ _ _ _ _ _ c.loop-arm-test.true c.arm-item.is c.in_ok-emit_arm.ensures c.in_ok-open_jump.ensures.code c.in_ok-open_jump.ensures.holes c.loop-arm.invariant.1,
)

pub emit_arm-returns : goal.emit_arm-returns
emit_arm-returns t c =
    on_ok_weaker c.close_unless.result
    (λ h. arm_closed _ (expr_of c.args.arm.now.cond) (block_in c.args.arm.now.block.items) _ _ _ _ _ _ c.in_ok-emit_expr.ensures c.in_ok-hole.ensures.code c.in_ok-hole.ensures.hole c.in_ok-emit_block.ensures h) c.close_unless.ensures

pub emit_while-returns : goal.emit_while-returns
emit_while-returns t c =
    on_ok_weaker c.close_unless.result
    (λ h. while_closed _ (expr_of c.args.cond.now) (block_in c.args.block.now.items) _ _ _ _ _ _ _ _ c.in_ok-start.ensures c.in_ok-emit_expr.ensures c.in_ok-hole.ensures.code c.in_ok-hole.ensures.hole c.in_ok-emit_block.ensures c.in_ok-put.ensures h) c.close_unless.ensures

pub emit_foreach-returns : goal.emit_foreach-returns
emit_foreach-returns t c =
    on_ok_weaker c.put.result
    (λ h. foreach_closed _ _ (expr_of c.args.of.now) (block_in c.args.block.now.items) _ _ _ _ _ _ _ c.in_ok-emit_expr.ensures c.in_ok-start.ensures.code c.in_ok-start.ensures.start c.in_ok-emit_block.ensures c.in_ok-close_walk.ensures h) c.put.ensures

pub emit_stmt-returns-in_ok-emit_block-in-If : goal.emit_stmt-returns-in_ok-emit_block-in-If
emit_stmt-returns-in_ok-emit_block-in-If t c =
    on_ok_weaker c.close_jumps.result
    (λ h. if_closed _ (arms_in c.in-If.arms.items) (block_in c.in-If.other.items) _ _ _ _ _ c.in_ok-holes-in-If.ensures.code (c.deref.ensures.value ∙ c.in_ok-holes-in-If.ensures.holes) c.in_ok-emit_block-in-If.ensures h
    ∙ ap (λ x. c.args.code.now.items ++ command_code (role_is c.args.role) x (length c.args.code.now.items)) (sym (ap command_of c.in-If.is ∙ command_of-If c.in-If.arms c.in-If.other))) c.close_jumps.ensures
