use Rattle.std.proofs.Common.{rules}
use Rattle.hera_syntax.specs.declared.expr.LineTrees.{the_lemmas}
use Rattle.hera_syntax.proofs.Rows.{lines_rows}
use Rattle.hera_syntax.proofs.expr.LineTrees.new.Goals as goal

pub returns : goal.returns
returns c = search (rules, the_lemmas, lines_rows)
