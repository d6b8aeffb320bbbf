use Rattle.std.specs.Prelude.{◌≡◌, ◌≤◌, ◌+◌, ◌-◌, ℕ, false, List, length}
use Rattle.std.specs.Option.{option_map}
use Rattle.hera_meaning.specs.Deltas.{Atom, is_fail, IsDelta}
use Rattle.delta_atoms.specs.Atoms.{atoms_in}
use Rattle.delta_atoms.specs.Refs.{atom_in}
use Rattle.commit_journal.specs.Table.{at_atom_count, behind_atom, opened, last_atom}
use Rattle.commit_journal.specs.Places.{Reaches}
use Rattle.commit_journal.proofs.scanning.record_at.Given as goal

abbrev pub invariant-loop : goal.invariant-loop
invariant-loop l = record {
  within : l.at ≤ length l.bytes;
  behind : l.fn.at + 4 ≤ l.at;
  known : is_fail l.delta ≡ false;
  valid : IsDelta l.delta;
  last : last_atom (atoms_in l.delta) ≡ option_map atom_in l.last;
  read : (start : ℕ) (records : List (List Atom)) → Reaches l.rels l.bytes start l.fn.at (at_atom_count records) → Reaches l.rels l.bytes start l.at (behind_atom (opened records (atoms_in l.delta)) (l.count - l.counter));
}
