use Rattle.std.specs.Prelude.{◌≡◌, ◌≤◌, ◌-◌, List, length, map}
use Rattle.hera_meaning.specs.Deltas.{Atom, atoms}
use Rattle.commit_journal.specs.Table.{at_gate}
use Rattle.commit_journal.specs.Places.{Reaches}
use Rattle.commit_journal.proofs.scanning.scan.Given as goal

abbrev pub invariant-loop-byte : goal.invariant-loop-byte
invariant-loop-byte l = record {
  within : l.gate ≤ length l.bytes;
  behind : l.fn.at ≤ l.gate;
  read : (records : List (List Atom)) × (l.deltas.items ≡ map atoms records) × Reaches l.rels l.bytes l.fn.at l.gate (at_gate records);
}

abbrev pub decreases-loop-byte : goal.decreases-loop-byte
decreases-loop-byte l = length l.bytes - l.gate
