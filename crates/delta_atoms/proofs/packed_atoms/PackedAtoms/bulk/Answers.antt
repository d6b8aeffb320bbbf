use Rattle.delta_atoms.proofs.Bulks.{one_atoms}
use Rattle.delta_atoms.proofs.packed_atoms.PackedAtoms.bulk.Goals as goal

pub returns : goal.returns
returns c =
    rw (c.in_ok-push.ensures.items, c.new-parts.ensures.items, c.in_ok-one_side.ensures)
    (one_atoms c.args.sign c.args.rel.0 c.args.rows.now c.len-len.ensures.ordered)
