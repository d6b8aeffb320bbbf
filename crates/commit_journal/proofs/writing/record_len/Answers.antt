use Rattle.std.proofs.Common.{◌∙◌, sym, ap, ◌+◌, length}
use Rattle.std.specs.List.{flat_map}
use Rattle.delta_atoms.specs.Atoms.{atoms_in}
use Rattle.delta_atoms.specs.Refs.{atom_in, bound_of}
use Rattle.delta_atoms.proofs.Looks.{atoms_up}
use Rattle.delta_atoms.proofs.Walks.{walk_falls, filter_after_none}
use Rattle.rel_format.specs.Journal.{atom_bytes}
use Rattle.commit_journal.proofs.Records.{length_on, length_end, length_record}
use Rattle.commit_journal.proofs.writing.record_len.Goals as goal

pub loop-atom-init : goal.loop-atom-init
loop-atom-init c = ap (λ xs. 4 + length (flat_map atom_bytes xs)) (filter_after_none (atoms_in c.args.delta.now))

pub loop-atom-smaller : goal.loop-atom-smaller
loop-atom-smaller c = walk_falls (atoms_in c.args.delta.now) (bound_of c.loop-atom.last) (atom_in c.in-Some.atom) (atoms_up c.args.delta.now c.in-Some.ensures.valid) (sym c.in-Some.ensures.next)

pub loop-atom-preserved : goal.loop-atom-preserved
loop-atom-preserved c =
    rw c.in_ok-len.ensures.1
    (length_on c.loop-atom.len _ (atoms_in c.args.delta.now) (bound_of c.loop-atom.last) (atom_in c.in-Some.atom) (atoms_up c.args.delta.now c.in-Some.ensures.valid) (sym c.in-Some.ensures.next) c.loop-atom.invariant)

pub returns : goal.returns
returns c =
    let xs = atoms_in c.args.delta.now in
    let whole = length_end c.loop-atom.len (4 + length (flat_map atom_bytes xs)) xs (bound_of c.loop-atom.last) (sym c.in_default.ensures.next) c.loop-atom.invariant in
    whole ∙ sym (length_record xs)
