use Rattle.std.proofs.Common.{◌≡◌, List, ◌++◌, length}
use Rattle.std.specs.List.{filter}
use Rattle.hera_meaning.specs.Deltas.{Atom}
use Rattle.delta_atoms.specs.Atoms.{atoms_in, is_after}
use Rattle.delta_atoms.specs.Refs.{bound_of}
use Rattle.delta_atoms.proofs.delta.Delta.same_atoms.Given as goal

-- both have the atoms done and then those past the last one
abbrev pub invariant-loop-atom : goal.invariant-loop-atom
invariant-loop-atom l = (done : List Atom) × (done ++ filter (is_after (bound_of l.last)) (atoms_in l.self) ≡ atoms_in l.self) × (done ++ filter (is_after (bound_of l.last)) (atoms_in l.other) ≡ atoms_in l.other)

abbrev pub decreases-loop-atom : goal.decreases-loop-atom
decreases-loop-atom l = length (filter (is_after (bound_of l.last)) (atoms_in l.self))
