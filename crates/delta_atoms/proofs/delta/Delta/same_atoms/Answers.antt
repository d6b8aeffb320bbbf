use Rattle.std.proofs.Common.{◌∙◌, sym, ap, refl, ◌≡◌, None, Some, [], ◌∷◌, ◌++◌}
use Rattle.std.specs.List.{find}
use Rattle.std.specs.Option.{option_map}
use Rattle.delta_atoms.specs.Atoms.{atoms_in, is_after}
use Rattle.delta_atoms.specs.Refs.{atom_in, bound_of}
use Rattle.delta_atoms.proofs.Looks.{atoms_up}
use Rattle.delta_atoms.proofs.Walks.{walk_falls, walk_step, walk_end, filter_after_none}
use Rattle.delta_atoms.proofs.delta.Delta.same_atoms.Goals as goal

pub loop-atom-init : goal.loop-atom-init
loop-atom-init c = ([], filter_after_none (atoms_in c.args.self.now), filter_after_none (atoms_in c.args.other.now))

pub loop-atom-smaller : goal.loop-atom-smaller
loop-atom-smaller c = walk_falls (atoms_in c.args.self.now) (bound_of c.loop-atom.last) (atom_in c.in-Some.a) (atoms_up c.args.self.now c.above_from-atom.ensures.valid) (sym c.in-Some.ensures.next)

pub loop-atom-preserved : goal.loop-atom-preserved
loop-atom-preserved c =
    let next : find (is_after (bound_of c.loop-atom.last)) (atoms_in c.args.other.now) ≡ Some (atom_in c.in-Some.a) = sym c.above_from.ensures.next ∙ sym (c.if-are_same.ensures.0 refl) ∙ ap (option_map atom_in) c.in-Some.is in (
      c.loop-atom.invariant.0 ++ atom_in c.in-Some.a ∷ [],
      walk_step c.loop-atom.invariant.0 (atoms_in c.args.self.now) (bound_of c.loop-atom.last) (atom_in c.in-Some.a) (atoms_up c.args.self.now c.above_from-atom.ensures.valid) (sym c.in-Some.ensures.next) c.loop-atom.invariant.1,
      walk_step c.loop-atom.invariant.0 (atoms_in c.args.other.now) (bound_of c.loop-atom.last) (atom_in c.in-Some.a) (atoms_up c.args.other.now c.above_from.ensures.valid) next c.loop-atom.invariant.2,
    )

pub returns-in-None : goal.returns-in-None
returns-in-None c =
    let next : find (is_after (bound_of c.loop-atom.last)) (atoms_in c.args.other.now) ≡ None = sym c.above_from.ensures.next ∙ sym (c.if-are_same.ensures.0 refl) ∙ ap (option_map atom_in) c.in-None.is in
    let left = walk_end c.loop-atom.invariant.0 (atoms_in c.args.self.now) (bound_of c.loop-atom.last) (sym c.in-None.ensures.next) c.loop-atom.invariant.1 in
    let right = walk_end c.loop-atom.invariant.0 (atoms_in c.args.other.now) (bound_of c.loop-atom.last) next c.loop-atom.invariant.2 in
    (λ _. sym left ∙ right, λ _. refl)
