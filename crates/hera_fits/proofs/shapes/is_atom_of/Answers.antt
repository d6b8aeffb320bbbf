use Rattle.std.proofs.Common.{◌∙◌}
use Rattle.delta_atoms.specs.Refs.{atom_in}
use Rattle.hera_fits.proofs.Tested.{atom_known}
use Rattle.hera_fits.proofs.shapes.is_atom_of.Goals as goal

pub returns-in-Some : goal.returns-in-Some
returns-in-Some c = c.is_row.ensures ∙ atom_known c.args.catalogue.now (atom_in c.args.atom) c.in-Some.decl.now c.in-Some.ensures
