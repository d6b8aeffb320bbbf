use Rattle.delta_atoms.specs.Atoms.{atom_of}
use Rattle.delta_atoms.proofs.Places.{put_ordered, put_puts, puts_after}
use Rattle.delta_atoms.proofs.parts.put_row.Goals as goal

pub returns-clause-ordered : goal.returns-clause-ordered
returns-clause-ordered c =
    put_ordered c.args.sign c.args.rel.0 c.args.row.now c.open.new.parts.items c.in_ok-i.i c.index_mut.result.now c.put.new.self c.in_ok-i.ensures.place c.in_ok-i.ensures.ordered c.index_mut.ensures.value c.in_ok-put.ensures.ok

pub returns-clause-ok : goal.returns-clause-ok
returns-clause-ok c =
    puts_after (atom_of c.args.sign c.args.rel.0 c.args.row.now) c.args.parts.now.items c.open.new.parts.items _ c.in_ok-i.ensures.same
    (put_puts c.args.sign c.args.rel.0 c.args.row.now c.open.new.parts.items c.in_ok-i.i c.index_mut.result.now c.put.new.self c.in_ok-i.ensures.place c.in_ok-i.ensures.ordered c.index_mut.ensures.value c.in_ok-put.ensures.ok)
