use Rattle.std.proofs.Common.{rules}
use Rattle.hera_syntax.specs.declared.expr.Atoms.{the_lemmas}
use Rattle.hera_syntax.proofs.Rows.{atoms_rows}
use Rattle.hera_syntax.proofs.expr.Atoms.new.Goals as goal

pub returns : goal.returns
returns c = search (rules, the_lemmas, atoms_rows)
