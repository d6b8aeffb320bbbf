-- What a form tells of the next token.
use Rattle.std.proofs.Common.{◌≡◌, List, subst}
use Rattle.hera_syntax.specs.declared.token.Token.{Token}
use Rattle.hera_syntax.specs.Grammar as phrases
use Rattle.hera_parser.specs.declared.forms.StmtForm.{StmtForm}
use Rattle.hera_parser.specs.Numbers.{stmt_number}
use Rattle.hera_parser_exprs.specs.Reading.{Tells}

pub as_stmt_form : (form : StmtForm) {other : StmtForm} {a : List Token} → other ≡ form → Tells phrases.stmt (stmt_number other) a → Tells phrases.stmt (stmt_number form) a
as_stmt_form form {a = a} e h = subst (λ f. Tells phrases.stmt (stmt_number f) a) e h
