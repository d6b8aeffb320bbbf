use Rattle.std.proofs.Common.{◌≡◌, ◌∙◌, ap, sym, false}
use Rattle.hera_meaning.specs.Plain.{block_in}
use Rattle.hera_meaning.specs.Sound.{returns as last_returns}
use Rattle.hera_types.proofs.Returning.{last_turn, arms_stop, arms_end, return_returns}
use Rattle.hera_types.proofs.bodies.+returning.Goals as goal

pub statement_returns-returns-in-Return : goal.statement_returns-returns-in-Return
statement_returns-returns-in-Return t c = c.is_some.ensures ∙ sym (return_returns c.in-Return.value c.in-Return.is)

pub arms_return-returns-then-not-block_returns : goal.arms_return-returns-then-not-block_returns
arms_return-returns-then-not-block_returns t c =
    let x = c.arm-item.result in
    let ends : last_returns (block_in x.block.items) ≡ false =
    ap (λ ss. last_returns (block_in ss)) (sym c.deref.ensures.value) ∙ sym c.block_returns.ensures ∙ c.if-not-block_returns.true in
    sym (arms_stop c.args.arms.now c.loop-arm.arm-index x c.loop-arm-test.true c.arm-item.is ends c.loop-arm.invariant)

pub arms_return-returns : goal.arms_return-returns
arms_return-returns t c = sym (arms_end c.args.arms.now c.loop-arm.arm-index c.loop-arm-test.false c.loop-arm.invariant)

pub block_returns-loop-stmt-preserved : goal.block_returns-loop-stmt-preserved
block_returns-loop-stmt-preserved t c =
    last_turn c.args.stmts.now c.loop-stmt.stmt-index c.stmt-item.result c.loop-stmt-test.true c.stmt-item.is c.statement_returns-ends.ensures
