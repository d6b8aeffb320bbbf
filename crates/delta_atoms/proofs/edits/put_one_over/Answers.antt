use Rattle.std.proofs.Common.{◌≡◌, true, false, sym, subst, List}
use Rattle.std.proofs.lemmas.Result.{err_from_is_err_and}
use Rattle.hera_meaning.specs.declared.scalars.Sign.{Sign}
use Rattle.hera_meaning.specs.Deltas.{key_of}
use Rattle.delta_atoms.specs.Atoms.{atom_of, sign_at}
use Rattle.delta_atoms.specs.declared.parts.DeltaPart.{DeltaPart}
use Rattle.delta_atoms.specs.Parts.{atoms_of}
use Rattle.delta_atoms.specs.Refs.{atom_in}
use Rattle.delta_atoms.specs.Edits.{gives, Takes}
use Rattle.delta_atoms.proofs.Changed.{same_atoms_of, same_members}
use Rattle.delta_atoms.proofs.Single.{held_over, one_over_packed, one_over_atoms}
use Rattle.delta_atoms.proofs.edits.put_one_over.Goals as goal

pub returns-then-has-clause-ok : goal.returns-then-has-clause-ok
returns-then-has-clause-ok c =
    held_over (atom_in c.args.atom) c.args.parts.now.items c.requires
    (subst (λ (ps : List DeltaPart). gives (sign_at (atoms_of ps) (key_of (atom_in c.args.atom))) c.args.atom.sign ≡ true) c.deref.ensures.value (sym c.if-has.ensures))

pub returns-in_err-put_row-clause-err : goal.returns-in_err-put_row-clause-err
returns-in_err-put_row-clause-err c =
    let p = err_from_is_err_and c.from_residual.result c.from_residual.ensures.1 in
    rw p.1 (same_atoms_of c.args.parts.now.items c.put_row.new.parts.items c.requires c.in_err-put_row.ensures.ordered (same_members c.args.parts.now.items c.put_row.new.parts.items c.in_err-put_row.ensures.err))

pub returns-clause-packed : goal.returns-clause-packed
returns-clause-packed c =
    one_over_packed (atom_in c.args.atom) c.args.parts.now.items c.put_row.new.parts.items c.take_row.new.parts.items c.requires c.take_row.ensures.ordered
    (subst (λ (ps : List DeltaPart). gives (sign_at (atoms_of ps) (key_of (atom_in c.args.atom))) c.args.atom.sign ≡ false) c.deref.ensures.value (sym c.if-has.ensures))
    c.in_ok-put_row.ensures.ok
    (subst (λ (s : Sign). Takes (atom_of s c.args.atom.rel.0 c.args.atom.row.now) c.put_row.new.parts.items c.take_row.new.parts.items) c.turned.ensures c.take_row.ensures.taken)

pub returns-clause-ok : goal.returns-clause-ok
returns-clause-ok c =
    one_over_atoms (atom_in c.args.atom) c.args.parts.now.items c.put_row.new.parts.items c.take_row.new.parts.items c.requires c.take_row.ensures.ordered
    (subst (λ (ps : List DeltaPart). gives (sign_at (atoms_of ps) (key_of (atom_in c.args.atom))) c.args.atom.sign ≡ false) c.deref.ensures.value (sym c.if-has.ensures))
    c.in_ok-put_row.ensures.ok
    (subst (λ (s : Sign). Takes (atom_of s c.args.atom.rel.0 c.args.atom.row.now) c.put_row.new.parts.items c.take_row.new.parts.items) c.turned.ensures c.take_row.ensures.taken)
