use Rattle.std.proofs.Common.{◌≤◌, length, take}
use Rattle.hera_frames.specs.Items.{AreHeld}
use Rattle.hera_frames.proofs.operands.Operands.are_held.Given as goal

abbrev pub invariant-loop-i : goal.invariant-loop-i
invariant-loop-i l = record {
  there : l.i ≤ length l.self.items;
  held : AreHeld (take l.i l.self.items);
}
