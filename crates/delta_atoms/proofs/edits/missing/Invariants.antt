use Rattle.std.proofs.Common.{◌≡◌, List, ◌++◌, length}
use Rattle.std.specs.List.{filter}
use Rattle.hera_meaning.specs.Deltas.{Atom, atoms, unnamed}
use Rattle.delta_atoms.specs.Atoms.{atoms_in, is_after}
use Rattle.delta_atoms.specs.Parts.{atoms_of}
use Rattle.delta_atoms.specs.Refs.{bound_of}
use Rattle.delta_atoms.proofs.edits.missing.Given as goal

-- the atoms done that are missing
abbrev pub invariant-loop-atom : goal.invariant-loop-atom
invariant-loop-atom l = (done : List Atom) × (done ++ filter (is_after (bound_of l.last)) (atoms_in l.first) ≡ atoms_in l.first) × (l.fresh ≡ atoms (unnamed done (atoms_of l.parts)))

abbrev pub decreases-loop-atom : goal.decreases-loop-atom
decreases-loop-atom l = length (filter (is_after (bound_of l.last)) (atoms_in l.first))
