use Rattle.std.proofs.Common.{sym, ◌∙◌}
use Rattle.hera_meaning.specs.Deltas.{key_of}
use Rattle.delta_atoms.specs.Parts.{atoms_of}
use Rattle.delta_atoms.specs.Refs.{atom_in}
use Rattle.delta_atoms.proofs.Changed.{named_plus, named_minus}
use Rattle.delta_atoms.proofs.edits.is_named.Goals as goal

pub returns-then-has : goal.returns-then-has
returns-then-has c = named_plus (atoms_of c.args.parts.now) (key_of (atom_in c.args.atom)) (sym c.if-has.ensures)

pub returns : goal.returns
returns c = c.has-2.ensures ∙ named_minus (atoms_of c.args.parts.now) (key_of (atom_in c.args.atom)) (sym c.if-has.ensures)
