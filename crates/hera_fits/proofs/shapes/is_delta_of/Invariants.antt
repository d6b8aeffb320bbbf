use Rattle.std.proofs.Common.{◌≡◌, length}
use Rattle.std.specs.List.{list_all, filter}
use Rattle.hera_meaning.specs.Fits.{is_atom_of}
use Rattle.delta_atoms.specs.Atoms.{atoms_in, is_after}
use Rattle.delta_atoms.specs.Refs.{bound_of}
use Rattle.hera_fits.proofs.shapes.is_delta_of.Given as goal

abbrev pub invariant-loop-atom : goal.invariant-loop-atom
invariant-loop-atom l = list_all (is_atom_of l.catalogue) (filter (is_after (bound_of l.last)) (atoms_in l.delta)) ≡ list_all (is_atom_of l.catalogue) (atoms_in l.delta)

abbrev pub decreases-loop-atom : goal.decreases-loop-atom
decreases-loop-atom l = length (filter (is_after (bound_of l.last)) (atoms_in l.delta))
