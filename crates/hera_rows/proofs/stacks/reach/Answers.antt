use Rattle.std.proofs.Common.{sym}
use Rattle.hera_rows.proofs.BlockLemmas.{block_filled, home_rest}
use Rattle.hera_rows.proofs.stacks.reach.Goals as goal

pub row-requires : goal.row-requires
row-requires c = block_filled c.args.blocks.now c.loop-high.high c.index-blocks-high.result c.requires.order c.loop-high-test.true c.index-blocks-high.is

pub returns-then-is_below-clause-rest : goal.returns-then-is_below-clause-rest
returns-then-is_below-clause-rest c =
    home_rest c.args.blocks.now c.args.row.now c.loop-high.high c.index-blocks-high.result c.row.result.now c.requires.order c.loop-high-test.true c.index-blocks-high.is c.row.ensures (sym c.if-is_below.ensures)
