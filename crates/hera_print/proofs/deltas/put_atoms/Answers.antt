use Rattle.std.proofs.Common.{sym, ap, ◌++◌, Some}
use Rattle.std.specs.List.{filter}
use Rattle.hera_meaning.specs.Deltas.{key_of}
use Rattle.hera_meaning.specs.Fits.{is_atom_of}
use Rattle.hera_meaning.specs.Printed.{atom_text, atoms_text}
use Rattle.delta_atoms.specs.Atoms.{atoms_in, is_after}
use Rattle.delta_atoms.specs.Refs.{atom_in, bound_of}
use Rattle.delta_atoms.proofs.Looks.{atoms_up}
use Rattle.delta_atoms.proofs.Walks.{walk_falls, filter_after_none, filter_after_step, filter_none_found}
use Rattle.hera_print.proofs.Joined.{texts_step, texts_end}
use Rattle.hera_print.proofs.Picked.{all_found, atoms_pass}
use Rattle.hera_print.proofs.deltas.put_atoms.Goals as goal

pub loop-atom-init : goal.loop-atom-init
loop-atom-init c = ap (λ xs. c.args.out.now.items ++ atoms_text c.args.catalogue.now xs) (filter_after_none (atoms_in c.args.delta.now))

pub put_atom-requires : goal.put_atom-requires
put_atom-requires c =
    all_found (is_atom_of c.args.catalogue.now) (is_after (bound_of c.loop-atom.last)) (atoms_in c.args.delta.now) (atom_in c.in-Some.atom) (atoms_pass c.args.catalogue.now c.args.delta.now c.requires) (sym c.in-Some.ensures.next)

pub loop-atom-smaller : goal.loop-atom-smaller
loop-atom-smaller c = walk_falls (atoms_in c.args.delta.now) (bound_of c.loop-atom.last) (atom_in c.in-Some.atom) (atoms_up c.args.delta.now c.in-Some.ensures.valid) (sym c.in-Some.ensures.next)

pub loop-atom-preserved : goal.loop-atom-preserved
loop-atom-preserved c =
    rw c.in_ok-put_atom.ensures
    (texts_step (atom_text c.args.catalogue.now) _ _ (filter (is_after (bound_of c.loop-atom.last)) (atoms_in c.args.delta.now)) (filter (is_after (Some (key_of (atom_in c.in-Some.atom)))) (atoms_in c.args.delta.now)) (atom_in c.in-Some.atom) (filter_after_step (bound_of c.loop-atom.last) (atoms_in c.args.delta.now) (atom_in c.in-Some.atom) (atoms_up c.args.delta.now c.in-Some.ensures.valid) (sym c.in-Some.ensures.next)) c.loop-atom.invariant)

pub returns : goal.returns
returns c =
    texts_end (atom_text c.args.catalogue.now) _ _ (filter (is_after (bound_of c.loop-atom.last)) (atoms_in c.args.delta.now)) (filter_none_found (is_after (bound_of c.loop-atom.last)) (atoms_in c.args.delta.now) (sym c.in_default.ensures.next)) c.loop-atom.invariant
