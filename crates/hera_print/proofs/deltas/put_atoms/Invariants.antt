use Rattle.std.proofs.Common.{◌≡◌, ◌++◌, length}
use Rattle.std.specs.List.{filter}
use Rattle.hera_meaning.specs.Printed.{atoms_text}
use Rattle.delta_atoms.specs.Atoms.{atoms_in, is_after}
use Rattle.delta_atoms.specs.Refs.{bound_of}
use Rattle.hera_print.proofs.deltas.put_atoms.Given as goal

-- with the atoms past the last one, the text is whole
abbrev pub invariant-loop-atom : goal.invariant-loop-atom
invariant-loop-atom l = l.out.items ++ atoms_text l.catalogue (filter (is_after (bound_of l.last)) (atoms_in l.delta)) ≡ l.initial.out.items ++ atoms_text l.catalogue (atoms_in l.delta)

abbrev pub decreases-loop-atom : goal.decreases-loop-atom
decreases-loop-atom l = length (filter (is_after (bound_of l.last)) (atoms_in l.delta))
