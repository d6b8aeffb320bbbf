use Rattle.std.proofs.Common.{rules}
use Rattle.hera_syntax.specs.declared.expr.Expr.{the_lemmas}
use Rattle.hera_syntax.proofs.Rows.{comparison_rows}
use Rattle.hera_syntax.proofs.expr.Expr.comparison.Goals as goal

pub returns : goal.returns
returns c = search (rules, the_lemmas, comparison_rows)
