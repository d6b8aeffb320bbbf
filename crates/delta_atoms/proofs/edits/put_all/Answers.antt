use Rattle.std.proofs.Common.{sym, refl, subst, [], ◌∷◌, ◌++◌, List}
use Rattle.std.proofs.lemmas.Result.{err_from_is_err_and}
use Rattle.hera_meaning.specs.Deltas.{Atom}
use Rattle.delta_atoms.specs.Atoms.{atoms_in}
use Rattle.delta_atoms.specs.Refs.{atom_in, bound_of}
use Rattle.delta_atoms.specs.Edits.{PutsAll}
use Rattle.delta_atoms.proofs.Looks.{atoms_up}
use Rattle.delta_atoms.proofs.Walks.{walk_falls, walk_step, walk_end, filter_after_none}
use Rattle.delta_atoms.proofs.Changed.{puts_step, puts_some}
use Rattle.delta_atoms.proofs.edits.put_all.Goals as goal

pub loop-atom-init : goal.loop-atom-init
loop-atom-init c = ([], filter_after_none (atoms_in c.args.fresh.now), (λ s n r. refl), c.requires)

pub put_row-requires : goal.put_row-requires
put_row-requires c = c.loop-atom.invariant.3

pub returns-in_err-put_row-clause-err : goal.returns-in_err-put_row-clause-err
returns-in_err-put_row-clause-err c =
    let p = err_from_is_err_and c.from_residual.result c.from_residual.ensures.1 in
    rw p.1
    (puts_some c.loop-atom.invariant.0 (atoms_in c.args.fresh.now) _ c.args.parts.now.items c.loop-atom.parts.items c.put_row.new.parts.items c.loop-atom.invariant.2 c.in_err-put_row.ensures.err c.loop-atom.invariant.1)

pub loop-atom-smaller : goal.loop-atom-smaller
loop-atom-smaller c = walk_falls (atoms_in c.args.fresh.now) (bound_of c.loop-atom.last) (atom_in c.in-Some.atom) (atoms_up c.args.fresh.now c.in-Some.ensures.valid) (sym c.in-Some.ensures.next)

pub loop-atom-preserved : goal.loop-atom-preserved
loop-atom-preserved c = (
  c.loop-atom.invariant.0 ++ atom_in c.in-Some.atom ∷ [],
  walk_step c.loop-atom.invariant.0 (atoms_in c.args.fresh.now) (bound_of c.loop-atom.last) (atom_in c.in-Some.atom) (atoms_up c.args.fresh.now c.in-Some.ensures.valid) (sym c.in-Some.ensures.next) c.loop-atom.invariant.1,
  puts_step c.loop-atom.invariant.0 (atom_in c.in-Some.atom) c.args.parts.now.items c.loop-atom.parts.items c.put_row.new.parts.items c.loop-atom.invariant.2 c.in_ok-put_row.ensures.ok,
  c.in_ok-put_row.ensures.ordered,
)

pub returns-clause-ordered : goal.returns-clause-ordered
returns-clause-ordered c = c.loop-atom.invariant.3

pub returns-clause-ok : goal.returns-clause-ok
returns-clause-ok c =
    subst (λ (t : List Atom). PutsAll t c.args.parts.now.items c.loop-atom.parts.items)
    (walk_end c.loop-atom.invariant.0 (atoms_in c.args.fresh.now) (bound_of c.loop-atom.last) (sym c.in_default.ensures.next) c.loop-atom.invariant.1)
    c.loop-atom.invariant.2
