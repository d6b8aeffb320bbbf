use Rattle.std.proofs.Common.{◌∙◌, sym, ap, Some}
use Rattle.std.specs.List.{filter, list_all}
use Rattle.hera_meaning.specs.Deltas.{key_of}
use Rattle.hera_meaning.specs.Fits.{is_atom_of}
use Rattle.delta_atoms.specs.Atoms.{atoms_in, is_after}
use Rattle.delta_atoms.specs.Refs.{atom_in, bound_of}
use Rattle.delta_atoms.proofs.Looks.{atoms_up}
use Rattle.delta_atoms.proofs.Walks.{walk_falls, filter_after_none, filter_after_step, filter_none_found}
use Rattle.hera_fits.proofs.Tested.{all_next, all_fails, all_over, atoms_tested}
use Rattle.hera_fits.proofs.shapes.is_delta_of.Goals as goal

pub loop-atom-init : goal.loop-atom-init
loop-atom-init c = ap (list_all (is_atom_of c.args.catalogue.now)) (filter_after_none (atoms_in c.args.delta.now))

pub loop-atom-smaller : goal.loop-atom-smaller
loop-atom-smaller c = walk_falls (atoms_in c.args.delta.now) (bound_of c.loop-atom.last) (atom_in c.in-Some.atom) (atoms_up c.args.delta.now c.in-Some.ensures.valid) (sym c.in-Some.ensures.next)

pub loop-atom-preserved : goal.loop-atom-preserved
loop-atom-preserved c =
    all_next (is_atom_of c.args.catalogue.now) (filter (is_after (bound_of c.loop-atom.last)) (atoms_in c.args.delta.now)) (filter (is_after (Some (key_of (atom_in c.in-Some.atom)))) (atoms_in c.args.delta.now)) (atom_in c.in-Some.atom)
    (filter_after_step (bound_of c.loop-atom.last) (atoms_in c.args.delta.now) (atom_in c.in-Some.atom) (atoms_up c.args.delta.now c.in-Some.ensures.valid) (sym c.in-Some.ensures.next))
    (sym c.if-not-is_atom_of.ensures)
    ∙ c.loop-atom.invariant

pub returns-then-not-is_atom_of : goal.returns-then-not-is_atom_of
returns-then-not-is_atom_of c =
    all_fails (is_atom_of c.args.catalogue.now) (filter (is_after (bound_of c.loop-atom.last)) (atoms_in c.args.delta.now)) (filter (is_after (Some (key_of (atom_in c.in-Some.atom)))) (atoms_in c.args.delta.now)) (atom_in c.in-Some.atom)
    (filter_after_step (bound_of c.loop-atom.last) (atoms_in c.args.delta.now) (atom_in c.in-Some.atom) (atoms_up c.args.delta.now c.in-Some.ensures.valid) (sym c.in-Some.ensures.next))
    (sym c.if-not-is_atom_of.ensures)
    ∙ c.loop-atom.invariant ∙ atoms_tested c.args.catalogue.now c.args.delta.now

pub returns : goal.returns
returns c =
    all_over (is_atom_of c.args.catalogue.now) (filter (is_after (bound_of c.loop-atom.last)) (atoms_in c.args.delta.now)) (filter_none_found (is_after (bound_of c.loop-atom.last)) (atoms_in c.args.delta.now) (sym c.in_default.ensures.next))
    ∙ c.loop-atom.invariant ∙ atoms_tested c.args.catalogue.now c.args.delta.now
