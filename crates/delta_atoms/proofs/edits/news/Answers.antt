use Rattle.std.proofs.Common.{◌∙◌, sym, ap, refl, [], ◌∷◌, ◌++◌}
use Rattle.hera_meaning.specs.Deltas.{atoms}
use Rattle.delta_atoms.specs.Atoms.{atoms_in}
use Rattle.delta_atoms.specs.Parts.{atoms_of}
use Rattle.delta_atoms.specs.Refs.{atom_in, bound_of}
use Rattle.delta_atoms.specs.Edits.{news}
use Rattle.delta_atoms.proofs.Looks.{atoms_up}
use Rattle.delta_atoms.proofs.Walks.{walk_falls, walk_step, walk_push, walk_end, filter_after_none}
use Rattle.delta_atoms.proofs.Changed.{news_step, ascending_news_last}
use Rattle.delta_atoms.proofs.edits.news.Goals as goal

pub loop-atom-init : goal.loop-atom-init
loop-atom-init c = ([], filter_after_none (atoms_in c.args.second.now), c.empty-fresh.ensures)

pub push_new-requires-clause-known : goal.push_new-requires-clause-known
push_new-requires-clause-known c = rw c.loop-atom.invariant.2 refl

pub push_new-requires-clause-last : goal.push_new-requires-clause-last
push_new-requires-clause-last c =
    rw c.loop-atom.invariant.2
    (ascending_news_last (atoms_of c.args.parts.now) c.loop-atom.invariant.0 (atom_in c.in-Some.atom)
    (walk_push c.loop-atom.invariant.0 (atoms_in c.args.second.now) (bound_of c.loop-atom.last) (atom_in c.in-Some.atom) (atoms_up c.args.second.now c.in-Some.ensures.valid) (sym c.in-Some.ensures.next) c.loop-atom.invariant.1))

pub loop-atom-smaller : goal.loop-atom-smaller
loop-atom-smaller c = walk_falls (atoms_in c.args.second.now) (bound_of c.loop-atom.last) (atom_in c.in-Some.atom) (atoms_up c.args.second.now c.in-Some.ensures.valid) (sym c.in-Some.ensures.next)

pub loop-atom-preserved : goal.loop-atom-preserved
loop-atom-preserved c = (
  c.loop-atom.invariant.0 ++ atom_in c.in-Some.atom ∷ [],
  walk_step c.loop-atom.invariant.0 (atoms_in c.args.second.now) (bound_of c.loop-atom.last) (atom_in c.in-Some.atom) (atoms_up c.args.second.now c.in-Some.ensures.valid) (sym c.in-Some.ensures.next) c.loop-atom.invariant.1,
  news_step (atoms_of c.args.parts.now) c.loop-atom.invariant.0 (atom_in c.in-Some.atom) c.loop-atom.fresh c.push_new.new.fresh c.loop-atom.invariant.2 c.in_ok-push_new.ensures,
)

pub returns-clause-fresh : goal.returns-clause-fresh
returns-clause-fresh c =
    c.loop-atom.invariant.2
    ∙ ap (λ t. atoms (news (atoms_of c.args.parts.now) t)) (walk_end c.loop-atom.invariant.0 (atoms_in c.args.second.now) (bound_of c.loop-atom.last) (sym c.in_default.ensures.next) c.loop-atom.invariant.1)
