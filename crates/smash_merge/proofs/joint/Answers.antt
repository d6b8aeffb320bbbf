use Rattle.std.proofs.Common.{◌∙◌, refl, sym, ap, arith, [], ◌∷◌, ◌++◌}
use Rattle.hera_meaning.specs.Deltas.{Delta, atoms, key_of, joint_atoms}
use Rattle.hera_meaning.specs.Values.{same_sign}
use Rattle.delta_atoms.specs.Atoms.{atoms_in, with_last}
use Rattle.delta_atoms.specs.Refs.{atom_in, bound_of}
use Rattle.delta_atoms.proofs.Looks.{atoms_up}
use Rattle.smash_merge.proofs.JointWalk.{joint_start, clash_start, before_none, before_some, level_keys, next_left, next_right, next_both, clash_left, clash_right, clash_none, clash_found, clash_end, joint_step, joint_push, joint_end, left_falls, right_falls, ends_by, fails_by, same_by}
use Rattle.smash_merge.proofs.joint.Goals as goal

pub loop-both-init : goal.loop-both-init
loop-both-init c = ([], c.empty-both.ensures, joint_start (atoms_in c.args.a.now) (atoms_in c.args.b.now), λ _. clash_start (atoms_in c.args.a.now) (atoms_in c.args.b.now))

pub push_last-requires-in-Some-None-clause-known : goal.push_last-requires-in-Some-None-clause-known
push_last-requires-in-Some-None-clause-known c = rw c.loop-both.invariant.1 refl

pub push_last-requires-in-Some-None-clause-last : goal.push_last-requires-in-Some-None-clause-last
push_last-requires-in-Some-None-clause-last c = rw c.loop-both.invariant.1 (joint_push (atoms_in c.args.a.now) (atoms_in c.args.b.now) (atoms_up c.args.a.now c.in-Some-None.ensures.valid) (atoms_up c.args.b.now c.in-Some-None.ensures'.valid) (bound_of c.loop-both.left) (bound_of c.loop-both.right) c.loop-both.invariant.0 (atom_in c.in-Some-None.x) _ (next_left (atoms_in c.args.a.now) (atoms_in c.args.b.now) (atoms_up c.args.a.now c.in-Some-None.ensures.valid) (atoms_up c.args.b.now c.in-Some-None.ensures'.valid) (bound_of c.loop-both.left) (bound_of c.loop-both.right) (atom_in c.in-Some-None.x) (sym c.in-Some-None.ensures.next) (before_none (key_of (atom_in c.in-Some-None.x)) (bound_of c.loop-both.right) (atoms_in c.args.b.now) (sym c.in-Some-None.ensures'.next))) c.loop-both.invariant.2)

pub loop-both-smaller-in-Some-None : goal.loop-both-smaller-in-Some-None
loop-both-smaller-in-Some-None c = omega (arith, left_falls (atoms_in c.args.a.now) (atoms_in c.args.b.now) (atoms_up c.args.a.now c.in-Some-None.ensures.valid) (atoms_up c.args.b.now c.in-Some-None.ensures'.valid) (bound_of c.loop-both.left) (bound_of c.loop-both.right) (atom_in c.in-Some-None.x) (sym c.in-Some-None.ensures.next))

pub loop-both-preserved-in-Some-None : goal.loop-both-preserved-in-Some-None
loop-both-preserved-in-Some-None c = (
  c.loop-both.invariant.0 ++ (atom_in c.in-Some-None.x) ∷ [],
  c.in_ok-push_last-in-Some-None.ensures.ok ∙ ap (λ (d : Delta). with_last d (atom_in c.in-Some-None.x)) c.loop-both.invariant.1,
  joint_step (atoms_in c.args.a.now) (atoms_in c.args.b.now) (atoms_up c.args.a.now c.in-Some-None.ensures.valid) (atoms_up c.args.b.now c.in-Some-None.ensures'.valid) (bound_of c.loop-both.left) (bound_of c.loop-both.right) c.loop-both.invariant.0 (atom_in c.in-Some-None.x) _ (next_left (atoms_in c.args.a.now) (atoms_in c.args.b.now) (atoms_up c.args.a.now c.in-Some-None.ensures.valid) (atoms_up c.args.b.now c.in-Some-None.ensures'.valid) (bound_of c.loop-both.left) (bound_of c.loop-both.right) (atom_in c.in-Some-None.x) (sym c.in-Some-None.ensures.next) (before_none (key_of (atom_in c.in-Some-None.x)) (bound_of c.loop-both.right) (atoms_in c.args.b.now) (sym c.in-Some-None.ensures'.next))) c.loop-both.invariant.2,
  λ f. sym (clash_left (atoms_in c.args.a.now) (atoms_in c.args.b.now) (atoms_up c.args.a.now c.in-Some-None.ensures.valid) (atoms_up c.args.b.now c.in-Some-None.ensures'.valid) (bound_of c.loop-both.left) (bound_of c.loop-both.right) (atom_in c.in-Some-None.x) (sym c.in-Some-None.ensures.next) (before_none (key_of (atom_in c.in-Some-None.x)) (bound_of c.loop-both.right) (atoms_in c.args.b.now) (sym c.in-Some-None.ensures'.next))) ∙ c.loop-both.invariant.3 f,
)

pub push_last-requires-clause-known : goal.push_last-requires-clause-known
push_last-requires-clause-known c = rw c.loop-both.invariant.1 refl

pub push_last-requires-clause-last : goal.push_last-requires-clause-last
push_last-requires-clause-last c = rw c.loop-both.invariant.1 (joint_push (atoms_in c.args.a.now) (atoms_in c.args.b.now) (atoms_up c.args.a.now c.in-None-Some.ensures.valid) (atoms_up c.args.b.now c.in-None-Some.ensures'.valid) (bound_of c.loop-both.left) (bound_of c.loop-both.right) c.loop-both.invariant.0 (atom_in c.in-None-Some.y) _ (next_right (atoms_in c.args.a.now) (atoms_in c.args.b.now) (atoms_up c.args.a.now c.in-None-Some.ensures.valid) (atoms_up c.args.b.now c.in-None-Some.ensures'.valid) (bound_of c.loop-both.left) (bound_of c.loop-both.right) (atom_in c.in-None-Some.y) (sym c.in-None-Some.ensures'.next) (before_none (key_of (atom_in c.in-None-Some.y)) (bound_of c.loop-both.left) (atoms_in c.args.a.now) (sym c.in-None-Some.ensures.next))) c.loop-both.invariant.2)

pub loop-both-smaller-in-None-Some : goal.loop-both-smaller-in-None-Some
loop-both-smaller-in-None-Some c = omega (arith, right_falls (atoms_in c.args.a.now) (atoms_in c.args.b.now) (atoms_up c.args.a.now c.in-None-Some.ensures.valid) (atoms_up c.args.b.now c.in-None-Some.ensures'.valid) (bound_of c.loop-both.left) (bound_of c.loop-both.right) (atom_in c.in-None-Some.y) (sym c.in-None-Some.ensures'.next))

pub loop-both-preserved-in-None-Some : goal.loop-both-preserved-in-None-Some
loop-both-preserved-in-None-Some c = (
  c.loop-both.invariant.0 ++ (atom_in c.in-None-Some.y) ∷ [],
  c.in_ok-push_last-in-None-Some.ensures.ok ∙ ap (λ (d : Delta). with_last d (atom_in c.in-None-Some.y)) c.loop-both.invariant.1,
  joint_step (atoms_in c.args.a.now) (atoms_in c.args.b.now) (atoms_up c.args.a.now c.in-None-Some.ensures.valid) (atoms_up c.args.b.now c.in-None-Some.ensures'.valid) (bound_of c.loop-both.left) (bound_of c.loop-both.right) c.loop-both.invariant.0 (atom_in c.in-None-Some.y) _ (next_right (atoms_in c.args.a.now) (atoms_in c.args.b.now) (atoms_up c.args.a.now c.in-None-Some.ensures.valid) (atoms_up c.args.b.now c.in-None-Some.ensures'.valid) (bound_of c.loop-both.left) (bound_of c.loop-both.right) (atom_in c.in-None-Some.y) (sym c.in-None-Some.ensures'.next) (before_none (key_of (atom_in c.in-None-Some.y)) (bound_of c.loop-both.left) (atoms_in c.args.a.now) (sym c.in-None-Some.ensures.next))) c.loop-both.invariant.2,
  λ f. sym (clash_right (atoms_in c.args.a.now) (atoms_in c.args.b.now) (atoms_up c.args.a.now c.in-None-Some.ensures.valid) (atoms_up c.args.b.now c.in-None-Some.ensures'.valid) (bound_of c.loop-both.left) (bound_of c.loop-both.right) (atom_in c.in-None-Some.y) (sym c.in-None-Some.ensures'.next) (before_none (key_of (atom_in c.in-None-Some.y)) (bound_of c.loop-both.left) (atoms_in c.args.a.now) (sym c.in-None-Some.ensures.next))) ∙ c.loop-both.invariant.3 f,
)

pub push_last-requires-then-is_before-clause-known : goal.push_last-requires-then-is_before-clause-known
push_last-requires-then-is_before-clause-known c = rw c.loop-both.invariant.1 refl

pub push_last-requires-then-is_before-clause-last : goal.push_last-requires-then-is_before-clause-last
push_last-requires-then-is_before-clause-last c = rw c.loop-both.invariant.1 (joint_push (atoms_in c.args.a.now) (atoms_in c.args.b.now) (atoms_up c.args.a.now c.in-Some-Some.ensures.valid) (atoms_up c.args.b.now c.in-Some-Some.ensures'.valid) (bound_of c.loop-both.left) (bound_of c.loop-both.right) c.loop-both.invariant.0 (atom_in c.in-Some-Some.x) _ (next_left (atoms_in c.args.a.now) (atoms_in c.args.b.now) (atoms_up c.args.a.now c.in-Some-Some.ensures.valid) (atoms_up c.args.b.now c.in-Some-Some.ensures'.valid) (bound_of c.loop-both.left) (bound_of c.loop-both.right) (atom_in c.in-Some-Some.x) (sym c.in-Some-Some.ensures.next) (before_some (key_of (atom_in c.in-Some-Some.x)) (bound_of c.loop-both.right) (atoms_in c.args.b.now) (atom_in c.in-Some-Some.y) (atoms_up c.args.b.now c.in-Some-Some.ensures'.valid) (sym c.in-Some-Some.ensures'.next) (sym c.if-is_before.ensures))) c.loop-both.invariant.2)

pub loop-both-smaller-then-is_before : goal.loop-both-smaller-then-is_before
loop-both-smaller-then-is_before c = omega (arith, left_falls (atoms_in c.args.a.now) (atoms_in c.args.b.now) (atoms_up c.args.a.now c.in-Some-Some.ensures.valid) (atoms_up c.args.b.now c.in-Some-Some.ensures'.valid) (bound_of c.loop-both.left) (bound_of c.loop-both.right) (atom_in c.in-Some-Some.x) (sym c.in-Some-Some.ensures.next))

pub loop-both-preserved-then-is_before : goal.loop-both-preserved-then-is_before
loop-both-preserved-then-is_before c = (
  c.loop-both.invariant.0 ++ (atom_in c.in-Some-Some.x) ∷ [],
  c.in_ok-push_last-in-Some-Some.ensures.ok ∙ ap (λ (d : Delta). with_last d (atom_in c.in-Some-Some.x)) c.loop-both.invariant.1,
  joint_step (atoms_in c.args.a.now) (atoms_in c.args.b.now) (atoms_up c.args.a.now c.in-Some-Some.ensures.valid) (atoms_up c.args.b.now c.in-Some-Some.ensures'.valid) (bound_of c.loop-both.left) (bound_of c.loop-both.right) c.loop-both.invariant.0 (atom_in c.in-Some-Some.x) _ (next_left (atoms_in c.args.a.now) (atoms_in c.args.b.now) (atoms_up c.args.a.now c.in-Some-Some.ensures.valid) (atoms_up c.args.b.now c.in-Some-Some.ensures'.valid) (bound_of c.loop-both.left) (bound_of c.loop-both.right) (atom_in c.in-Some-Some.x) (sym c.in-Some-Some.ensures.next) (before_some (key_of (atom_in c.in-Some-Some.x)) (bound_of c.loop-both.right) (atoms_in c.args.b.now) (atom_in c.in-Some-Some.y) (atoms_up c.args.b.now c.in-Some-Some.ensures'.valid) (sym c.in-Some-Some.ensures'.next) (sym c.if-is_before.ensures))) c.loop-both.invariant.2,
  λ f. sym (clash_left (atoms_in c.args.a.now) (atoms_in c.args.b.now) (atoms_up c.args.a.now c.in-Some-Some.ensures.valid) (atoms_up c.args.b.now c.in-Some-Some.ensures'.valid) (bound_of c.loop-both.left) (bound_of c.loop-both.right) (atom_in c.in-Some-Some.x) (sym c.in-Some-Some.ensures.next) (before_some (key_of (atom_in c.in-Some-Some.x)) (bound_of c.loop-both.right) (atoms_in c.args.b.now) (atom_in c.in-Some-Some.y) (atoms_up c.args.b.now c.in-Some-Some.ensures'.valid) (sym c.in-Some-Some.ensures'.next) (sym c.if-is_before.ensures))) ∙ c.loop-both.invariant.3 f,
)

pub push_last-requires-then-is_before-2-clause-known : goal.push_last-requires-then-is_before-2-clause-known
push_last-requires-then-is_before-2-clause-known c = rw c.loop-both.invariant.1 refl

pub push_last-requires-then-is_before-2-clause-last : goal.push_last-requires-then-is_before-2-clause-last
push_last-requires-then-is_before-2-clause-last c = rw c.loop-both.invariant.1 (joint_push (atoms_in c.args.a.now) (atoms_in c.args.b.now) (atoms_up c.args.a.now c.in-Some-Some.ensures.valid) (atoms_up c.args.b.now c.in-Some-Some.ensures'.valid) (bound_of c.loop-both.left) (bound_of c.loop-both.right) c.loop-both.invariant.0 (atom_in c.in-Some-Some.y) _ (next_right (atoms_in c.args.a.now) (atoms_in c.args.b.now) (atoms_up c.args.a.now c.in-Some-Some.ensures.valid) (atoms_up c.args.b.now c.in-Some-Some.ensures'.valid) (bound_of c.loop-both.left) (bound_of c.loop-both.right) (atom_in c.in-Some-Some.y) (sym c.in-Some-Some.ensures'.next) (before_some (key_of (atom_in c.in-Some-Some.y)) (bound_of c.loop-both.left) (atoms_in c.args.a.now) (atom_in c.in-Some-Some.x) (atoms_up c.args.a.now c.in-Some-Some.ensures.valid) (sym c.in-Some-Some.ensures.next) (sym c.if-is_before-2.ensures))) c.loop-both.invariant.2)

pub loop-both-smaller-then-is_before-2 : goal.loop-both-smaller-then-is_before-2
loop-both-smaller-then-is_before-2 c = omega (arith, right_falls (atoms_in c.args.a.now) (atoms_in c.args.b.now) (atoms_up c.args.a.now c.in-Some-Some.ensures.valid) (atoms_up c.args.b.now c.in-Some-Some.ensures'.valid) (bound_of c.loop-both.left) (bound_of c.loop-both.right) (atom_in c.in-Some-Some.y) (sym c.in-Some-Some.ensures'.next))

pub loop-both-preserved-then-is_before-2 : goal.loop-both-preserved-then-is_before-2
loop-both-preserved-then-is_before-2 c = (
  c.loop-both.invariant.0 ++ (atom_in c.in-Some-Some.y) ∷ [],
  c.in_ok-push_last-in-Some-Some-2.ensures.ok ∙ ap (λ (d : Delta). with_last d (atom_in c.in-Some-Some.y)) c.loop-both.invariant.1,
  joint_step (atoms_in c.args.a.now) (atoms_in c.args.b.now) (atoms_up c.args.a.now c.in-Some-Some.ensures.valid) (atoms_up c.args.b.now c.in-Some-Some.ensures'.valid) (bound_of c.loop-both.left) (bound_of c.loop-both.right) c.loop-both.invariant.0 (atom_in c.in-Some-Some.y) _ (next_right (atoms_in c.args.a.now) (atoms_in c.args.b.now) (atoms_up c.args.a.now c.in-Some-Some.ensures.valid) (atoms_up c.args.b.now c.in-Some-Some.ensures'.valid) (bound_of c.loop-both.left) (bound_of c.loop-both.right) (atom_in c.in-Some-Some.y) (sym c.in-Some-Some.ensures'.next) (before_some (key_of (atom_in c.in-Some-Some.y)) (bound_of c.loop-both.left) (atoms_in c.args.a.now) (atom_in c.in-Some-Some.x) (atoms_up c.args.a.now c.in-Some-Some.ensures.valid) (sym c.in-Some-Some.ensures.next) (sym c.if-is_before-2.ensures))) c.loop-both.invariant.2,
  λ f. sym (clash_right (atoms_in c.args.a.now) (atoms_in c.args.b.now) (atoms_up c.args.a.now c.in-Some-Some.ensures.valid) (atoms_up c.args.b.now c.in-Some-Some.ensures'.valid) (bound_of c.loop-both.left) (bound_of c.loop-both.right) (atom_in c.in-Some-Some.y) (sym c.in-Some-Some.ensures'.next) (before_some (key_of (atom_in c.in-Some-Some.y)) (bound_of c.loop-both.left) (atoms_in c.args.a.now) (atom_in c.in-Some-Some.x) (atoms_up c.args.a.now c.in-Some-Some.ensures.valid) (sym c.in-Some-Some.ensures.next) (sym c.if-is_before-2.ensures))) ∙ c.loop-both.invariant.3 f,
)

pub push_last-requires-else-clashes-clause-known : goal.push_last-requires-else-clashes-clause-known
push_last-requires-else-clashes-clause-known c = rw c.loop-both.invariant.1 refl

pub push_last-requires-else-clashes-clause-last : goal.push_last-requires-else-clashes-clause-last
push_last-requires-else-clashes-clause-last c = rw c.loop-both.invariant.1 (joint_push (atoms_in c.args.a.now) (atoms_in c.args.b.now) (atoms_up c.args.a.now c.in-Some-Some.ensures.valid) (atoms_up c.args.b.now c.in-Some-Some.ensures'.valid) (bound_of c.loop-both.left) (bound_of c.loop-both.right) c.loop-both.invariant.0 (atom_in c.in-Some-Some.y) _ (next_both (atoms_in c.args.a.now) (atoms_in c.args.b.now) (atoms_up c.args.a.now c.in-Some-Some.ensures.valid) (atoms_up c.args.b.now c.in-Some-Some.ensures'.valid) (bound_of c.loop-both.left) (bound_of c.loop-both.right) (atom_in c.in-Some-Some.x) (atom_in c.in-Some-Some.y) (sym c.in-Some-Some.ensures.next) (sym c.in-Some-Some.ensures'.next) (level_keys (key_of (atom_in c.in-Some-Some.x)) (key_of (atom_in c.in-Some-Some.y)) (sym c.if-is_before.ensures) (sym c.if-is_before-2.ensures))) c.loop-both.invariant.2)

pub loop-both-smaller : goal.loop-both-smaller
loop-both-smaller c = omega (arith, left_falls (atoms_in c.args.a.now) (atoms_in c.args.b.now) (atoms_up c.args.a.now c.in-Some-Some.ensures.valid) (atoms_up c.args.b.now c.in-Some-Some.ensures'.valid) (bound_of c.loop-both.left) (bound_of c.loop-both.right) (atom_in c.in-Some-Some.x) (sym c.in-Some-Some.ensures.next), right_falls (atoms_in c.args.a.now) (atoms_in c.args.b.now) (atoms_up c.args.a.now c.in-Some-Some.ensures.valid) (atoms_up c.args.b.now c.in-Some-Some.ensures'.valid) (bound_of c.loop-both.left) (bound_of c.loop-both.right) (atom_in c.in-Some-Some.y) (sym c.in-Some-Some.ensures'.next))

pub loop-both-preserved : goal.loop-both-preserved
loop-both-preserved c = (
  c.loop-both.invariant.0 ++ (atom_in c.in-Some-Some.y) ∷ [],
  c.in_ok-push_last-in-Some-Some-3.ensures.ok ∙ ap (λ (d : Delta). with_last d (atom_in c.in-Some-Some.y)) c.loop-both.invariant.1,
  joint_step (atoms_in c.args.a.now) (atoms_in c.args.b.now) (atoms_up c.args.a.now c.in-Some-Some.ensures.valid) (atoms_up c.args.b.now c.in-Some-Some.ensures'.valid) (bound_of c.loop-both.left) (bound_of c.loop-both.right) c.loop-both.invariant.0 (atom_in c.in-Some-Some.y) _ (next_both (atoms_in c.args.a.now) (atoms_in c.args.b.now) (atoms_up c.args.a.now c.in-Some-Some.ensures.valid) (atoms_up c.args.b.now c.in-Some-Some.ensures'.valid) (bound_of c.loop-both.left) (bound_of c.loop-both.right) (atom_in c.in-Some-Some.x) (atom_in c.in-Some-Some.y) (sym c.in-Some-Some.ensures.next) (sym c.in-Some-Some.ensures'.next) (level_keys (key_of (atom_in c.in-Some-Some.x)) (key_of (atom_in c.in-Some-Some.y)) (sym c.if-is_before.ensures) (sym c.if-is_before-2.ensures))) c.loop-both.invariant.2,
  λ f. clash_none (atoms_in c.args.a.now) (atoms_in c.args.b.now) (atoms_up c.args.a.now c.in-Some-Some.ensures.valid) (atoms_up c.args.b.now c.in-Some-Some.ensures'.valid) (bound_of c.loop-both.left) (bound_of c.loop-both.right) (atom_in c.in-Some-Some.x) (atom_in c.in-Some-Some.y) (sym c.in-Some-Some.ensures.next) (sym c.in-Some-Some.ensures'.next) (level_keys (key_of (atom_in c.in-Some-Some.x)) (key_of (atom_in c.in-Some-Some.y)) (sym c.if-is_before.ensures) (sym c.if-is_before-2.ensures)) (same_by c.args.clash_fails (same_sign c.in-Some-Some.x.sign c.in-Some-Some.y.sign) c.if-clashes.ensures f) (c.loop-both.invariant.3 f),
)

pub returns-in-None-None : goal.returns-in-None-None
returns-in-None-None c =
    c.loop-both.invariant.1 ∙ ap atoms (joint_end (atoms_in c.args.a.now) (atoms_in c.args.b.now) (atoms_up c.args.a.now c.in-None-None.ensures.valid) (atoms_up c.args.b.now c.in-None-None.ensures'.valid) (bound_of c.loop-both.left) (bound_of c.loop-both.right) c.loop-both.invariant.0 (sym c.in-None-None.ensures.next) (sym c.in-None-None.ensures'.next) c.loop-both.invariant.2)
    ∙ ends_by c.args.clash_fails _ (atoms (joint_atoms (atoms_in c.args.a.now) (atoms_in c.args.b.now))) (λ f. clash_end (atoms_in c.args.a.now) (atoms_in c.args.b.now) (atoms_up c.args.a.now c.in-None-None.ensures.valid) (atoms_up c.args.b.now c.in-None-None.ensures'.valid) (bound_of c.loop-both.left) (bound_of c.loop-both.right) (sym c.in-None-None.ensures.next) (c.loop-both.invariant.3 f))

pub returns-then-clashes : goal.returns-then-clashes
returns-then-clashes c =
    c.fail.ensures
    ∙ fails_by c.args.clash_fails (same_sign c.in-Some-Some.x.sign c.in-Some-Some.y.sign) _ (atoms (joint_atoms (atoms_in c.args.a.now) (atoms_in c.args.b.now))) c.if-clashes.ensures (λ f s. clash_found (atoms_in c.args.a.now) (atoms_in c.args.b.now) (atoms_up c.args.a.now c.in-Some-Some.ensures.valid) (atoms_up c.args.b.now c.in-Some-Some.ensures'.valid) (bound_of c.loop-both.left) (bound_of c.loop-both.right) (atom_in c.in-Some-Some.x) (atom_in c.in-Some-Some.y) (sym c.in-Some-Some.ensures.next) (sym c.in-Some-Some.ensures'.next) (level_keys (key_of (atom_in c.in-Some-Some.x)) (key_of (atom_in c.in-Some-Some.y)) (sym c.if-is_before.ensures) (sym c.if-is_before-2.ensures)) s (c.loop-both.invariant.3 f))
