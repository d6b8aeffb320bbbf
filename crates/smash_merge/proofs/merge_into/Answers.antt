use Rattle.std.proofs.Common.{◌≡◌, cond, sym, ap, ◌∙◌, subst, OnOk}
use Rattle.hera_meaning.specs.Deltas.{Delta, fail, atoms, smash_of, merge_of, joint_atoms}
use Rattle.hera_meaning.proofs.DeltaLaws.{merge_of-comm}
use Rattle.delta_atoms.specs.Atoms.{atoms_in}
use Rattle.smash_merge.proofs.JointWalk.{smash_known, merge_known}
use Rattle.smash_merge.proofs.merge_into.Goals as goal

pub returns-then-clash-clause-either : goal.returns-then-clash-clause-either
returns-then-clash-clause-either c =
    let a = c.args.a.now in
    let b = c.args.b.now in
    c.make_fail-then-clash.ensures
    ∙ sym (merge_known a b (sym c.if-is_fail.ensures.fails) (sym c.if-is_fail-2.ensures.fails) ∙ ap (λ v. cond v fail (atoms (joint_atoms (atoms_in a) (atoms_in b)))) (sym c.if-clash.ensures))
    ∙ merge_of-comm a b c.is_fail.ensures.valid c.is_fail-2.ensures.valid

pub returns-clause-either : goal.returns-clause-either
returns-clause-either c =
    let a = c.args.a.now in
    let b = c.args.b.now in
    let same : smash_of a b ≡ merge_of b a =
    smash_known a b (sym c.if-is_fail.ensures.fails) (sym c.if-is_fail-2.ensures.fails)
    ∙ sym (merge_known a b (sym c.if-is_fail.ensures.fails) (sym c.if-is_fail-2.ensures.fails) ∙ ap (λ v. cond v fail (atoms (joint_atoms (atoms_in a) (atoms_in b)))) (sym c.if-clash.ensures))
    ∙ merge_of-comm a b c.is_fail.ensures.valid c.is_fail-2.ensures.valid in
    subst (λ (d : Delta). OnOk c.smash_into.result (c.smash_into.new.a ≡ d)) same c.smash_into.ensures.ok
