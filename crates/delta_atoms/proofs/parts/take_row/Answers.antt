use Rattle.delta_atoms.specs.Edits.{IsAt, IsGap}
use Rattle.delta_atoms.proofs.Places.{take_ordered, take_takes, gap_takes}
use Rattle.delta_atoms.proofs.parts.take_row.Goals as goal

pub returns-in-Ok-clause-ordered : goal.returns-in-Ok-clause-ordered
returns-in-Ok-clause-ordered c =
    let place : IsAt c.args.parts.now.items c.args.rel.0 c.in-Ok.i = rw c.deref.ensures.value at c.in-Ok.ensures in
    take_ordered c.args.sign c.args.rel.0 c.args.row.now c.args.parts.now.items c.in-Ok.i c.index_mut.result.now c.take.new.self place c.requires c.index_mut.ensures.value c.take.ensures

pub returns-in-Ok-clause-taken : goal.returns-in-Ok-clause-taken
returns-in-Ok-clause-taken c =
    let place : IsAt c.args.parts.now.items c.args.rel.0 c.in-Ok.i = rw c.deref.ensures.value at c.in-Ok.ensures in
    take_takes c.args.sign c.args.rel.0 c.args.row.now c.args.parts.now.items c.in-Ok.i c.index_mut.result.now c.take.new.self place c.requires c.index_mut.ensures.value c.take.ensures

pub returns-in_default-clause-taken : goal.returns-in_default-clause-taken
returns-in_default-clause-taken c =
    let gap : IsGap c.args.parts.now.items c.args.rel.0 c.in_default.field-0 = rw c.deref.ensures.value at c.in_default.ensures in
    gap_takes c.args.sign c.args.rel.0 c.args.row.now c.args.parts.now.items c.in_default.field-0 gap
