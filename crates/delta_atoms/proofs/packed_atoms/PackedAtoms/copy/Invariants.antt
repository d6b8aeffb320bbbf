use Rattle.std.proofs.Common.{◌≡◌, take}
use Rattle.delta_atoms.proofs.packed_atoms.PackedAtoms.copy.Given as goal

-- the parts up to this one are copied
abbrev pub invariant-loop-part : goal.invariant-loop-part
invariant-loop-part l = l.copies.items ≡ take l.part-index l.part-items
