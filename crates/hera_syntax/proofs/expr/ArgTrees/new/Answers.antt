use Rattle.std.proofs.Common.{rules}
use Rattle.hera_syntax.specs.declared.expr.ArgTrees.{the_lemmas}
use Rattle.hera_syntax.proofs.Rows.{args_rows}
use Rattle.hera_syntax.proofs.expr.ArgTrees.new.Goals as goal

pub returns : goal.returns
returns c = search (rules, the_lemmas, args_rows)
