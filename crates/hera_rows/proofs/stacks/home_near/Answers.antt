use Rattle.std.proofs.Common.{sym}
use Rattle.hera_rows.proofs.BlockLemmas.{block_filled, home_front}
use Rattle.hera_rows.proofs.stacks.home_near.Goals as goal

pub row-requires : goal.row-requires
row-requires c = block_filled c.args.blocks.now c.args.guess c.index-blocks-guess.result c.requires.order c.if-guess-blocks.true c.index-blocks-guess.is

pub home_between-requires-clause-front : goal.home_between-requires-clause-front
home_between-requires-clause-front c =
    home_front c.args.blocks.now c.args.row.now c.args.guess c.index-blocks-guess.result c.row.result.now c.requires.order c.if-guess-blocks.true c.index-blocks-guess.is c.row.ensures (sym c.if-not-is_below.ensures)
