-- The number of the alternative that has a form.
use Rattle.std.specs.Prelude.{ℕ}
use Rattle.hera_parser.specs.declared.forms.StmtForm.{StmtForm}
use Rattle.hera_parser.specs.declared.forms.StmtForm.TheVariants as stmts

abbrev pub stmt_number : StmtForm → ℕ
stmt_number stmts.Declare = 0
stmt_number stmts.Named = 1
stmt_number stmts.If = 2
stmt_number stmts.While = 3
stmt_number stmts.Foreach = 4
stmt_number stmts.Print = 5
stmt_number stmts.Apply = 6
stmt_number stmts.Assert = 7
stmt_number stmts.Commit = 8
stmt_number stmts.Rollback = 9
stmt_number stmts.Return = 10
