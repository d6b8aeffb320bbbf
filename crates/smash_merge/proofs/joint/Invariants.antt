use Rattle.std.proofs.Common.{◌≡◌, List, ◌++◌, ◌+◌, length, true}
use Rattle.std.specs.List.{filter}
use Rattle.hera_meaning.specs.Deltas.{Atom, atoms, joint_atoms}
use Rattle.delta_atoms.specs.Atoms.{atoms_in, is_after}
use Rattle.delta_atoms.specs.Refs.{bound_of}
use Rattle.smash_merge.proofs.JointWalk.{any_crossed}
use Rattle.smash_merge.proofs.joint.Given as goal

-- the atoms done, and the smash of those to come; and what is to come clashes where all does
abbrev pub invariant-loop-both : goal.invariant-loop-both
invariant-loop-both l =
    (done : List Atom) × (l.both ≡ atoms done)
    × (done ++ joint_atoms (filter (is_after (bound_of l.left)) (atoms_in l.a)) (filter (is_after (bound_of l.right)) (atoms_in l.b)) ≡ joint_atoms (atoms_in l.a) (atoms_in l.b))
    × (l.clash_fails ≡ true → any_crossed (filter (is_after (bound_of l.left)) (atoms_in l.a)) (filter (is_after (bound_of l.right)) (atoms_in l.b)) ≡ any_crossed (atoms_in l.a) (atoms_in l.b))

abbrev pub decreases-loop-both : goal.decreases-loop-both
decreases-loop-both l = length (filter (is_after (bound_of l.left)) (atoms_in l.a)) + length (filter (is_after (bound_of l.right)) (atoms_in l.b))
