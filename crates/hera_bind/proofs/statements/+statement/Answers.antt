use Rattle.std.proofs.Common.{arith}
use Rattle.hera_bind.proofs.Loops.{stmts_bound, arms_bound}
use Rattle.hera_bind.proofs.statements.+statement.Goals as goal

pub bind_block-returns : goal.bind_block-returns
bind_block-returns t c =
    stmts_bound c.args.own.now c.args.catalogue.now c.args.block.now.items c.loop-i.block.items c.loop-i.invariant.1.many
    (λ k d l. c.loop-i.invariant.1.before k d (omega (arith, l, c.loop-i-test.false, c.len-i-end.ensures, c.args.block.now.ok.0, c.loop-i.invariant.1.many)))

pub bind_arms-returns : goal.bind_arms-returns
bind_arms-returns t c =
    arms_bound c.args.own.now c.args.catalogue.now c.args.arms.now.items c.loop-i.arms.items c.loop-i.invariant.1.many
    (λ k d l. c.loop-i.invariant.1.before k d (omega (arith, l, c.loop-i-test.false, c.len-i-end.ensures, c.args.arms.now.ok.0, c.loop-i.invariant.1.many)))
