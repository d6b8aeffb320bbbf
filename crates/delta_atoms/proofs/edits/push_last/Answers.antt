use Rattle.std.proofs.lemmas.Result.{err_from_is_err_and}
use Rattle.delta_atoms.specs.Atoms.{atom_of}
use Rattle.delta_atoms.proofs.Changed.{same_atoms_of, same_members, pushed_packed, pushed_atoms}
use Rattle.delta_atoms.proofs.edits.push_last.Goals as goal

pub returns-in_err-put_row-clause-err : goal.returns-in_err-put_row-clause-err
returns-in_err-put_row-clause-err c =
    let p = err_from_is_err_and c.from_residual.result c.from_residual.ensures.1 in
    rw p.1 (same_atoms_of c.args.parts.now.items c.put_row.new.parts.items c.requires.packed c.in_err-put_row.ensures.ordered (same_members c.args.parts.now.items c.put_row.new.parts.items c.in_err-put_row.ensures.err))

pub returns-clause-packed : goal.returns-clause-packed
returns-clause-packed c = pushed_packed (atom_of c.args.sign c.args.rel.0 c.args.row.now) c.args.parts.now.items c.put_row.new.parts.items c.requires.packed c.in_ok-put_row.ensures.ordered c.in_ok-put_row.ensures.ok c.requires.last

pub returns-clause-ok : goal.returns-clause-ok
returns-clause-ok c = pushed_atoms (atom_of c.args.sign c.args.rel.0 c.args.row.now) c.args.parts.now.items c.put_row.new.parts.items c.requires.packed c.in_ok-put_row.ensures.ordered c.in_ok-put_row.ensures.ok c.requires.last
