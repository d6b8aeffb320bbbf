use Rattle.delta_atoms.proofs.PartSigns.{ascending_atoms_of}
use Rattle.delta_atoms.proofs.packed_atoms.PackedAtoms.above.Goals as goal

pub returns-clause-valid : goal.returns-clause-valid
returns-clause-valid c = rw (← c.self.view_is) (ascending_atoms_of c.self.inside.parts.items c.self.invariant.0.ordered c.self.invariant.0.apart)
