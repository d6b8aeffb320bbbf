use Rattle.std.proofs.Common.{◌≡◌, ◌++◌, length}
use Rattle.std.specs.List.{filter, flat_map}
use Rattle.delta_atoms.specs.Atoms.{atoms_in, is_after}
use Rattle.delta_atoms.specs.Refs.{bound_of}
use Rattle.rel_format.specs.Journal.{atom_bytes}
use Rattle.commit_journal.proofs.writing.put_atoms.Given as goal

-- with the atoms past the last one, the bytes are whole
abbrev pub invariant-loop-atom : goal.invariant-loop-atom
invariant-loop-atom l = l.out.items ++ flat_map atom_bytes (filter (is_after (bound_of l.last)) (atoms_in l.delta)) ≡ l.initial.out.items ++ flat_map atom_bytes (atoms_in l.delta)

abbrev pub decreases-loop-atom : goal.decreases-loop-atom
decreases-loop-atom l = length (filter (is_after (bound_of l.last)) (atoms_in l.delta))
