use Rattle.std.proofs.Common.{◌≤◌, ◌-◌, length, take, drop}
use Rattle.delta_atoms.specs.Parts.{IsBeforeAll}
use Rattle.delta_atoms.specs.Edits.{IsUpto}
use Rattle.delta_atoms.proofs.parts.search.Given as goal

abbrev pub invariant-loop-low : goal.invariant-loop-low
invariant-loop-low l = record {
  front : IsUpto l.rel.0 (take l.low l.parts);
  rest : IsBeforeAll l.rel.0 (drop l.high l.parts);
  ordered : l.low ≤ l.high;
  within : l.high ≤ length l.parts;
}

abbrev pub decreases-loop-low : goal.decreases-loop-low
decreases-loop-low l = l.high - l.low
