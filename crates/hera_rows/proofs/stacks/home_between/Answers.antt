use Rattle.std.proofs.Common.{◌≡◌, suc, drop, arith, sym, subst}
use Rattle.hera_sets.specs.Rows.{IsBelowAll}
use Rattle.hera_rows.specs.Blocks.{joined}
use Rattle.hera_rows.proofs.BlockLemmas.{block_filled, home_front, home_rest}
use Rattle.hera_rows.proofs.stacks.home_between.Goals as goal

pub row-requires : goal.row-requires
row-requires c = block_filled c.args.blocks.now _ c.index-blocks-middle.result c.requires.order (omega arith) c.index-blocks-middle.is

pub loop-low-preserved-then-is_below : goal.loop-low-preserved-then-is_below
loop-low-preserved-then-is_below c =
    record {
      front = c.loop-low.invariant.front;
      rest = home_rest c.args.blocks.now c.args.row.now _ c.index-blocks-middle.result c.row.result.now c.requires.order (omega arith) c.index-blocks-middle.is c.row.ensures (sym c.if-is_below.ensures);
      ordered = omega arith;
      within = omega arith;
    }

pub loop-low-preserved : goal.loop-low-preserved
loop-low-preserved c =
    record {
      front = home_front c.args.blocks.now c.args.row.now _ c.index-blocks-middle.result c.row.result.now c.requires.order (omega arith) c.index-blocks-middle.is c.row.ensures (sym c.if-is_below.ensures);
      rest = c.loop-low.invariant.rest;
      ordered = omega arith;
      within = c.loop-low.invariant.within;
    }

pub returns : goal.returns
returns c =
    let next : c.loop-low.high ≡ suc c.loop-low.low = omega (arith, c.loop-low.invariant.ordered, c.loop-low-test.false) in
    record {
      within = omega (arith, c.loop-low.invariant.ordered, c.loop-low.invariant.within);
      front = c.loop-low.invariant.front;
      rest = subst (λ n. IsBelowAll c.args.row.now (joined (drop n c.args.blocks.now))) next c.loop-low.invariant.rest;
    }
