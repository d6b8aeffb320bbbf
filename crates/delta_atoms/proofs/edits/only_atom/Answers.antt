use Rattle.std.proofs.Common.{sym, ◌∙◌}
use Rattle.delta_atoms.specs.Atoms.{atoms_in}
use Rattle.delta_atoms.proofs.Single.{only_of}
use Rattle.delta_atoms.proofs.edits.only_atom.Goals as goal

pub returns : goal.returns
returns c = only_of (atoms_in c.args.delta.now) c.above.result (sym c.count.ensures ∙ c.if-count-ne1.false) (sym c.above.ensures.next)
