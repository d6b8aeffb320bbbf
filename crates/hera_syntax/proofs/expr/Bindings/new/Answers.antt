use Rattle.std.proofs.Common.{rules}
use Rattle.hera_syntax.specs.declared.expr.Bindings.{the_lemmas}
use Rattle.hera_syntax.proofs.Rows.{bindings_rows}
use Rattle.hera_syntax.proofs.expr.Bindings.new.Goals as goal

pub returns : goal.returns
returns c = search (rules, the_lemmas, bindings_rows)
