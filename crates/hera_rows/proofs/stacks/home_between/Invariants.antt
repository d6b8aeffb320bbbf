use Rattle.std.proofs.Common.{◌<◌, ◌≤◌, ◌-◌, length, take, drop}
use Rattle.hera_sets.specs.Rows.{IsBelowAll}
use Rattle.hera_rows.specs.Blocks.{joined, AreBelow}
use Rattle.hera_rows.proofs.stacks.home_between.Given as goal

abbrev pub invariant-loop-low : goal.invariant-loop-low
invariant-loop-low l = record {
  front : AreBelow (joined (take l.low l.blocks)) l.row;
  rest : IsBelowAll l.row (joined (drop l.high l.blocks));
  ordered : l.low < l.high;
  within : l.high ≤ length l.blocks;
}

abbrev pub decreases-loop-low : goal.decreases-loop-low
decreases-loop-low l = l.high - l.low
