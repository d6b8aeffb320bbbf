use Rattle.std.proofs.Common.{◌∙◌, ap}
use Rattle.hera_sets.specs.Rows.{holds}
use Rattle.delta_atoms.specs.Parts.{atoms_of}
use Rattle.delta_atoms.proofs.PartSigns.{ascending_atoms_of}
use Rattle.delta_atoms.proofs.Sides.{holds-part_of}
use Rattle.delta_atoms.proofs.Looks.{part_at, part_gap}
use Rattle.delta_atoms.proofs.edits.has.Goals as goal

pub returns-in-Ok : goal.returns-in-Ok
returns-in-Ok c =
    c.has.ensures.found
    ∙ ap (λ t. holds t c.args.atom.row.now) (c.side.ensures ∙ part_at c.args.parts.now c.args.atom.rel.0 c.in-Ok.i c.args.atom.sign c.index-parts-i.result c.requires c.in-Ok.ensures c.index-parts-i.is)
    ∙ holds-part_of (atoms_of c.args.parts.now) c.args.atom.rel.0 c.args.atom.sign c.args.atom.row.now (ascending_atoms_of c.args.parts.now c.requires.ordered c.requires.apart)

pub returns-in-Err : goal.returns-in-Err
returns-in-Err c =
    ap (λ t. holds t c.args.atom.row.now) (part_gap c.args.parts.now c.args.atom.rel.0 c.in-Err.field-0 c.args.atom.sign c.requires c.in-Err.ensures)
    ∙ holds-part_of (atoms_of c.args.parts.now) c.args.atom.rel.0 c.args.atom.sign c.args.atom.row.now (ascending_atoms_of c.args.parts.now c.requires.ordered c.requires.apart)
