use Rattle.std.proofs.Common.{◌≡◌, take}
use Rattle.hera_rows.specs.Blocks.{joined, AreStacked}
use Rattle.hera_rows.proofs.stacks.pack.Given as goal

-- the rows up to this place are packed
abbrev pub invariant-loop-i : goal.invariant-loop-i
invariant-loop-i l = record {
  stacked : AreStacked l.packed.items l.counts.items;
  done : joined l.packed.items ≡ take l.i (joined l.blocks.items);
}
