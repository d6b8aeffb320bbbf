use Rattle.std.proofs.Common.{◌≡◌, ◌||◌, Some, true, false, sym, ap, ◌∙◌}
use Rattle.std.specs.List.{filter}
use Rattle.delta_atoms.specs.Atoms.{atoms_in, is_after}
use Rattle.delta_atoms.specs.Refs.{atom_in, bound_of}
use Rattle.delta_atoms.specs.Edits.{gives, turned}
use Rattle.delta_atoms.proofs.Looks.{atoms_up}
use Rattle.delta_atoms.proofs.Walks.{walk_falls}
use Rattle.smash_merge.proofs.JointWalk.{crossed, any_crossed}
use Rattle.smash_merge.proofs.Merging.{crossed_start, crossed_step, crossed_end, clash_seen}
use Rattle.smash_merge.proofs.clash.Goals as goal

pub loop-atom-init : goal.loop-atom-init
loop-atom-init c = crossed_start (atoms_in c.args.a.now) (atoms_in c.args.b.now)

pub loop-atom-smaller : goal.loop-atom-smaller
loop-atom-smaller c = walk_falls (atoms_in c.args.b.now) (bound_of c.loop-atom.last) (atom_in c.in-Some.atom) (atoms_up c.args.b.now c.in-Some.ensures.valid) (sym c.in-Some.ensures.next)

pub loop-atom-preserved : goal.loop-atom-preserved
loop-atom-preserved c =
    let xs = atoms_in c.args.a.now in
    let ys = atoms_in c.args.b.now in
    let y = atom_in c.in-Some.atom in
    let apart : crossed xs y ≡ false = ap (λ o. gives o (turned true c.in-Some.atom.sign)) (sym c.sign.ensures) ∙ sym c.if-crosses.ensures in
    sym (crossed_step xs ys (bound_of c.loop-atom.last) y (atoms_up c.args.b.now c.in-Some.ensures.valid) (sym c.in-Some.ensures.next) ∙ ap (λ v. v || any_crossed (filter (is_after (bound_of (Some c.in-Some.atom))) ys) xs) apart)
    ∙ c.loop-atom.invariant

pub returns-then-crosses : goal.returns-then-crosses
returns-then-crosses c =
    let xs = atoms_in c.args.a.now in
    let ys = atoms_in c.args.b.now in
    let y = atom_in c.in-Some.atom in
    let across : crossed xs y ≡ true = ap (λ o. gives o (turned true c.in-Some.atom.sign)) (sym c.sign.ensures) ∙ sym c.if-crosses.ensures in
    sym (clash_seen xs ys (atoms_up c.args.a.now c.is_fail-fails.ensures.valid) ∙ sym c.loop-atom.invariant
    ∙ crossed_step xs ys (bound_of c.loop-atom.last) y (atoms_up c.args.b.now c.in-Some.ensures.valid) (sym c.in-Some.ensures.next) ∙ ap (λ v. v || any_crossed (filter (is_after (bound_of (Some c.in-Some.atom))) ys) xs) across)

pub returns : goal.returns
returns c =
    let xs = atoms_in c.args.a.now in
    let ys = atoms_in c.args.b.now in
    sym (clash_seen xs ys (atoms_up c.args.a.now c.is_fail-fails.ensures.valid) ∙ sym c.loop-atom.invariant ∙ crossed_end xs ys (bound_of c.loop-atom.last) (sym c.in_default.ensures.next))
