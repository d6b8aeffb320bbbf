-- the first of the instructions so far
use Rattle.std.proofs.Common.{◌≡◌, ◌≤◌, length}
use Rattle.hera_noted.specs.Writes.{AreWrites}
use Rattle.hera_noted.proofs.extents.first_writes.Given as goal

abbrev pub invariant-loop-at : goal.invariant-loop-at
invariant-loop-at l = record {
  low : l.fn.body.start ≤ l.at;
  long : length l.writes.items ≡ l.slots;
  writes : AreWrites l.instrs l.fn.body.start l.fn.body.end l.at l.writes.items;
}
