use Rattle.std.proofs.Common.{◌≡◌, drop}
use Rattle.std.specs.List.{find}
use Rattle.delta_atoms.specs.Atoms.{is_after}
use Rattle.delta_atoms.specs.Parts.{atoms_of}
use Rattle.delta_atoms.specs.Refs.{bound_of}
use Rattle.delta_atoms.proofs.parts.first_after.Given as goal

-- the first atom is among the parts to come
abbrev pub invariant-loop-part : goal.invariant-loop-part
invariant-loop-part l = find (is_after (bound_of l.bound)) (atoms_of (drop l.part-index l.parts)) ≡ find (is_after (bound_of l.bound)) (atoms_of l.parts)
