use Rattle.std.proofs.Common.{sym, refl, subst, [], ◌∷◌, ◌++◌, List}
use Rattle.hera_meaning.specs.declared.scalars.Sign.{Sign}
use Rattle.hera_meaning.specs.Deltas.{Atom}
use Rattle.delta_atoms.specs.Atoms.{atom_of, atoms_in}
use Rattle.delta_atoms.specs.Refs.{atom_in, bound_of}
use Rattle.delta_atoms.specs.Edits.{Takes, TakesAll}
use Rattle.delta_atoms.proofs.Looks.{atoms_up}
use Rattle.delta_atoms.proofs.Walks.{walk_falls, walk_step, walk_end, filter_after_none}
use Rattle.delta_atoms.proofs.Changed.{takes_step}
use Rattle.delta_atoms.proofs.edits.take_all.Goals as goal

pub loop-atom-init : goal.loop-atom-init
loop-atom-init c = ([], filter_after_none (atoms_in c.args.fresh.now), (λ s n r. refl), c.requires)

pub take_row-requires : goal.take_row-requires
take_row-requires c = c.loop-atom.invariant.3

pub loop-atom-smaller : goal.loop-atom-smaller
loop-atom-smaller c = walk_falls (atoms_in c.args.fresh.now) (bound_of c.loop-atom.last) (atom_in c.in-Some.atom) (atoms_up c.args.fresh.now c.in-Some.ensures.valid) (sym c.in-Some.ensures.next)

pub loop-atom-preserved : goal.loop-atom-preserved
loop-atom-preserved c = (
  c.loop-atom.invariant.0 ++ atom_in c.in-Some.atom ∷ [],
  walk_step c.loop-atom.invariant.0 (atoms_in c.args.fresh.now) (bound_of c.loop-atom.last) (atom_in c.in-Some.atom) (atoms_up c.args.fresh.now c.in-Some.ensures.valid) (sym c.in-Some.ensures.next) c.loop-atom.invariant.1,
  takes_step c.args.turn c.loop-atom.invariant.0 (atom_in c.in-Some.atom) c.args.parts.now.items c.loop-atom.parts.items c.take_row.new.parts.items c.loop-atom.invariant.2
      (subst (λ (s : Sign). Takes (atom_of s c.in-Some.atom.rel.0 c.in-Some.atom.row.now) c.loop-atom.parts.items c.take_row.new.parts.items) c.turned.ensures c.take_row.ensures.taken),
  c.take_row.ensures.ordered,
)

pub returns-clause-ordered : goal.returns-clause-ordered
returns-clause-ordered c = c.loop-atom.invariant.3

pub returns-clause-taken : goal.returns-clause-taken
returns-clause-taken c =
    subst (λ (t : List Atom). TakesAll c.args.turn t c.args.parts.now.items c.loop-atom.parts.items)
    (walk_end c.loop-atom.invariant.0 (atoms_in c.args.fresh.now) (bound_of c.loop-atom.last) (sym c.in_default.ensures.next) c.loop-atom.invariant.1)
    c.loop-atom.invariant.2
