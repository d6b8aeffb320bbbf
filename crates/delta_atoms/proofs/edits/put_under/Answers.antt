use Rattle.std.proofs.Common.{◌≡◌, ◌∙◌, ap, subst, false, List}
use Rattle.hera_meaning.specs.Deltas.{Atom, unnamed}
use Rattle.delta_atoms.specs.Atoms.{atoms_in}
use Rattle.delta_atoms.specs.declared.parts.DeltaPart.{DeltaPart}
use Rattle.delta_atoms.specs.Parts.{atoms_of}
use Rattle.delta_atoms.specs.Edits.{PutsAll, PutsSome, TakesAll}
use Rattle.delta_atoms.proofs.Looks.{atoms_up}
use Rattle.delta_atoms.proofs.Changed.{same_atoms_of, under_packed, under_atoms, under_undone}
use Rattle.delta_atoms.proofs.edits.put_under.Goals as goal

pub returns-in-Ok-clause-ok : goal.returns-in-Ok-clause-ok
returns-in-Ok-clause-ok c =
    let absent : atoms_in c.in_ok-absent.absent ≡ unnamed (atoms_in c.args.first.now) (atoms_of c.args.parts.now.items) = ap atoms_in c.in_ok-absent.ensures.fresh ∙ ap (λ (ps : List DeltaPart). unnamed (atoms_in c.args.first.now) (atoms_of ps)) c.deref.ensures.value in
    under_atoms (atoms_in c.args.first.now) c.args.parts.now.items c.put_all.new.parts.items c.requires (atoms_up c.args.first.now c.in_ok-absent.ensures.valid) c.put_all.ensures.ordered
    (subst (λ (t : List Atom). PutsAll t c.args.parts.now.items c.put_all.new.parts.items) absent c.in-Ok.ensures.ok)

pub returns-in-Ok-clause-packed : goal.returns-in-Ok-clause-packed
returns-in-Ok-clause-packed c =
    let absent : atoms_in c.in_ok-absent.absent ≡ unnamed (atoms_in c.args.first.now) (atoms_of c.args.parts.now.items) = ap atoms_in c.in_ok-absent.ensures.fresh ∙ ap (λ (ps : List DeltaPart). unnamed (atoms_in c.args.first.now) (atoms_of ps)) c.deref.ensures.value in
    under_packed (atoms_in c.args.first.now) c.args.parts.now.items c.put_all.new.parts.items c.requires (atoms_up c.args.first.now c.in_ok-absent.ensures.valid) c.put_all.ensures.ordered
    (subst (λ (t : List Atom). PutsAll t c.args.parts.now.items c.put_all.new.parts.items) absent c.in-Ok.ensures.ok)

pub returns-clause-err : goal.returns-clause-err
returns-clause-err c =
    let absent : atoms_in c.in_ok-absent.absent ≡ unnamed (atoms_in c.args.first.now) (atoms_of c.args.parts.now.items) = ap atoms_in c.in_ok-absent.ensures.fresh ∙ ap (λ (ps : List DeltaPart). unnamed (atoms_in c.args.first.now) (atoms_of ps)) c.deref.ensures.value in
    same_atoms_of c.args.parts.now.items c.take_all.new.parts.items c.requires c.take_all.ensures.ordered
    (under_undone (atoms_in c.args.first.now) c.args.parts.now.items c.put_all.new.parts.items c.requires (atoms_up c.args.first.now c.in_ok-absent.ensures.valid) c.take_all.new.parts.items
    (subst (λ (t : List Atom). PutsSome t c.args.parts.now.items c.put_all.new.parts.items) absent c.in-Err.ensures.err)
    (subst (λ (t : List Atom). TakesAll false t c.put_all.new.parts.items c.take_all.new.parts.items) absent c.take_all.ensures.taken))
