use Rattle.std.proofs.Common.{◌≡◌, ◌∙◌, ap, subst, true, false, List}
use Rattle.hera_meaning.specs.Deltas.{Atom}
use Rattle.delta_atoms.specs.Atoms.{atoms_in}
use Rattle.delta_atoms.specs.declared.parts.DeltaPart.{DeltaPart}
use Rattle.delta_atoms.specs.Parts.{atoms_of}
use Rattle.delta_atoms.specs.Edits.{PutsAll, PutsSome, TakesAll, news}
use Rattle.delta_atoms.proofs.Looks.{atoms_up}
use Rattle.delta_atoms.proofs.Changed.{same_atoms_of, over_atoms, undone}
use Rattle.delta_atoms.proofs.edits.put_all_over.Goals as goal

pub returns-in-Ok-clause-ok : goal.returns-in-Ok-clause-ok
returns-in-Ok-clause-ok c =
    let fresh : atoms_in c.in_ok-fresh.fresh ≡ news (atoms_of c.args.parts.now.items) (atoms_in c.args.second.now) = ap atoms_in c.in_ok-fresh.ensures.fresh ∙ ap (λ (ps : List DeltaPart). news (atoms_of ps) (atoms_in c.args.second.now)) c.deref.ensures.value in
    over_atoms (atoms_in c.args.second.now) c.args.parts.now.items c.put_all.new.parts.items c.take_all.new.parts.items c.requires c.take_all.ensures.ordered (atoms_up c.args.second.now c.in_ok-fresh.ensures.valid)
    (subst (λ (t : List Atom). PutsAll t c.args.parts.now.items c.put_all.new.parts.items) fresh c.in-Ok.ensures.ok)
    (subst (λ (t : List Atom). TakesAll true t c.put_all.new.parts.items c.take_all.new.parts.items) fresh c.take_all.ensures.taken)

pub returns-clause-err : goal.returns-clause-err
returns-clause-err c =
    let fresh : atoms_in c.in_ok-fresh.fresh ≡ news (atoms_of c.args.parts.now.items) (atoms_in c.args.second.now) = ap atoms_in c.in_ok-fresh.ensures.fresh ∙ ap (λ (ps : List DeltaPart). news (atoms_of ps) (atoms_in c.args.second.now)) c.deref.ensures.value in
    same_atoms_of c.args.parts.now.items c.take_all-in-Err.new.parts.items c.requires c.take_all-in-Err.ensures.ordered
    (undone (atoms_in c.args.second.now) c.args.parts.now.items c.put_all.new.parts.items c.take_all-in-Err.new.parts.items c.requires c.take_all-in-Err.ensures.ordered (atoms_up c.args.second.now c.in_ok-fresh.ensures.valid)
    (subst (λ (t : List Atom). PutsSome t c.args.parts.now.items c.put_all.new.parts.items) fresh c.in-Err.ensures.err)
    (subst (λ (t : List Atom). TakesAll false t c.put_all.new.parts.items c.take_all-in-Err.new.parts.items) fresh c.take_all-in-Err.ensures.taken))
