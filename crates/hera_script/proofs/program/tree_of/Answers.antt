use Rattle.std.proofs.Common.{sym, ap, ◌∙◌, Err}
use Rattle.hera_script.proofs.Refused.{same_err, unreadable_at}
use Rattle.hera_script.proofs.program.tree_of.Goals as goal

pub returns-in-Err-Syntax-clause-fault : goal.returns-in-Err-Syntax-clause-fault
returns-in-Err-Syntax-clause-fault c = λ cause at is.
    unreadable_at c.args.tokens.now c.in-Err-Syntax.token c.offset_of.result cause at
    (c.parse.ensures.syntax c.in-Err-Syntax.token (c.in-Err-Syntax.is ∙ ap Err c.in-Err-Syntax.field-0-is)) c.offset_of.ensures (sym c.refused.ensures ∙ same_err _ _ is)
