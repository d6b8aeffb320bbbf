use Rattle.std.proofs.Common.{◌≡◌, List, ◌++◌, length}
use Rattle.std.specs.List.{filter}
use Rattle.hera_meaning.specs.Deltas.{Atom}
use Rattle.delta_atoms.specs.Atoms.{atoms_in, is_after}
use Rattle.delta_atoms.specs.Parts.{AreOrdered}
use Rattle.delta_atoms.specs.Refs.{bound_of}
use Rattle.delta_atoms.specs.Edits.{PutsAll}
use Rattle.delta_atoms.proofs.edits.put_all.Given as goal

-- the atoms done are put in
abbrev pub invariant-loop-atom : goal.invariant-loop-atom
invariant-loop-atom l = (done : List Atom) × (done ++ filter (is_after (bound_of l.last)) (atoms_in l.fresh) ≡ atoms_in l.fresh) × PutsAll done l.fn.parts.items l.parts.items × AreOrdered l.parts.items

abbrev pub decreases-loop-atom : goal.decreases-loop-atom
decreases-loop-atom l = length (filter (is_after (bound_of l.last)) (atoms_in l.fresh))
