use Rattle.std.proofs.Common.{◌∙◌, not, sym, ap, refl, [], ◌∷◌, ◌++◌}
use Rattle.hera_meaning.specs.Deltas.{atoms, key_of, keys_of, unnamed}
use Rattle.hera_sets.specs.Rows.{holds}
use Rattle.delta_atoms.specs.Atoms.{atoms_in}
use Rattle.delta_atoms.specs.Parts.{atoms_of}
use Rattle.delta_atoms.specs.Refs.{atom_in, bound_of}
use Rattle.delta_atoms.proofs.Looks.{atoms_up}
use Rattle.delta_atoms.proofs.Walks.{walk_falls, walk_step, walk_push, walk_end, filter_after_none}
use Rattle.delta_atoms.proofs.Changed.{missing_step, ascending_kept_last}
use Rattle.delta_atoms.proofs.edits.missing.Goals as goal

pub loop-atom-init : goal.loop-atom-init
loop-atom-init c = ([], filter_after_none (atoms_in c.args.first.now), c.empty-fresh.ensures)

pub push_missing-requires-clause-known : goal.push_missing-requires-clause-known
push_missing-requires-clause-known c = rw c.loop-atom.invariant.2 refl

pub push_missing-requires-clause-last : goal.push_missing-requires-clause-last
push_missing-requires-clause-last c =
    rw c.loop-atom.invariant.2
    (ascending_kept_last (λ b. not (holds (keys_of (atoms_of c.args.parts.now)) (key_of b))) c.loop-atom.invariant.0 (atom_in c.in-Some.atom)
    (walk_push c.loop-atom.invariant.0 (atoms_in c.args.first.now) (bound_of c.loop-atom.last) (atom_in c.in-Some.atom) (atoms_up c.args.first.now c.in-Some.ensures.valid) (sym c.in-Some.ensures.next) c.loop-atom.invariant.1))

pub loop-atom-smaller : goal.loop-atom-smaller
loop-atom-smaller c = walk_falls (atoms_in c.args.first.now) (bound_of c.loop-atom.last) (atom_in c.in-Some.atom) (atoms_up c.args.first.now c.in-Some.ensures.valid) (sym c.in-Some.ensures.next)

pub loop-atom-preserved : goal.loop-atom-preserved
loop-atom-preserved c = (
  c.loop-atom.invariant.0 ++ atom_in c.in-Some.atom ∷ [],
  walk_step c.loop-atom.invariant.0 (atoms_in c.args.first.now) (bound_of c.loop-atom.last) (atom_in c.in-Some.atom) (atoms_up c.args.first.now c.in-Some.ensures.valid) (sym c.in-Some.ensures.next) c.loop-atom.invariant.1,
  missing_step (atoms_of c.args.parts.now) c.loop-atom.invariant.0 (atom_in c.in-Some.atom) c.loop-atom.fresh c.push_missing.new.fresh c.loop-atom.invariant.2 c.in_ok-push_missing.ensures,
)

pub returns-clause-fresh : goal.returns-clause-fresh
returns-clause-fresh c =
    c.loop-atom.invariant.2
    ∙ ap (λ t. atoms (unnamed t (atoms_of c.args.parts.now))) (walk_end c.loop-atom.invariant.0 (atoms_in c.args.first.now) (bound_of c.loop-atom.last) (sym c.in_default.ensures.next) c.loop-atom.invariant.1)
