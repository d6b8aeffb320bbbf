use Rattle.std.proofs.Common.{◌≡◌, length}
use Rattle.std.specs.List.{filter}
use Rattle.delta_atoms.specs.Atoms.{atoms_in, is_after}
use Rattle.delta_atoms.specs.Refs.{bound_of}
use Rattle.smash_merge.proofs.JointWalk.{any_crossed}
use Rattle.smash_merge.proofs.clash.Given as goal

-- what the atoms to come answer is the answer
abbrev pub invariant-loop-atom : goal.invariant-loop-atom
invariant-loop-atom l = any_crossed (filter (is_after (bound_of l.last)) (atoms_in l.b)) (atoms_in l.a) ≡ any_crossed (atoms_in l.b) (atoms_in l.a)

abbrev pub decreases-loop-atom : goal.decreases-loop-atom
decreases-loop-atom l = length (filter (is_after (bound_of l.last)) (atoms_in l.b))
