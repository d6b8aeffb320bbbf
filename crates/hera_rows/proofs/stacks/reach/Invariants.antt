use Rattle.std.proofs.Common.{◌<◌, ◌≤◌, ◌-◌, length}
use Rattle.hera_rows.proofs.stacks.reach.Given as goal

abbrev pub invariant-loop-high : goal.invariant-loop-high
invariant-loop-high l = record {
  more : l.from < l.high;
  within : l.high ≤ length l.blocks;
}

abbrev pub decreases-loop-high : goal.decreases-loop-high
decreases-loop-high l = length l.blocks - l.high
