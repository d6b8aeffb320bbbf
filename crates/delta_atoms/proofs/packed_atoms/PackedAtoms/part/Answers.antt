use Rattle.std.proofs.Common.{◌∙◌}
use Rattle.delta_atoms.specs.Edits.{IsAt, IsGap}
use Rattle.delta_atoms.proofs.PartSigns.{ascending_atoms_of}
use Rattle.delta_atoms.proofs.Looks.{part_at, part_gap}
use Rattle.delta_atoms.proofs.packed_atoms.PackedAtoms.part.Goals as goal

pub returns-in-Ok-clause-rows : goal.returns-in-Ok-clause-rows
returns-in-Ok-clause-rows c =
    let place : IsAt c.self.inside.parts.items c.args.rel.0 c.in-Ok.i = rw c.deref.ensures.value at c.in-Ok.ensures in
    rw (← c.self.view_is)
    (c.side.ensures ∙ part_at c.self.inside.parts.items c.args.rel.0 c.in-Ok.i c.args.sign c.index.result.now c.self.invariant.0 place c.index.ensures)

pub returns-in-Ok-clause-valid : goal.returns-in-Ok-clause-valid
returns-in-Ok-clause-valid c = rw (← c.self.view_is) (ascending_atoms_of c.self.inside.parts.items c.self.invariant.0.ordered c.self.invariant.0.apart)

pub returns-in-Err-clause-rows : goal.returns-in-Err-clause-rows
returns-in-Err-clause-rows c =
    let gap : IsGap c.self.inside.parts.items c.args.rel.0 c.in-Err.field-0 = rw c.deref.ensures.value at c.in-Err.ensures in
    rw (← c.self.view_is)
    (c.self.invariant.1 ∙ part_gap c.self.inside.parts.items c.args.rel.0 c.in-Err.field-0 c.args.sign c.self.invariant.0 gap)

pub returns-in-Err-clause-valid : goal.returns-in-Err-clause-valid
returns-in-Err-clause-valid c = rw (← c.self.view_is) (ascending_atoms_of c.self.inside.parts.items c.self.invariant.0.ordered c.self.invariant.0.apart)
