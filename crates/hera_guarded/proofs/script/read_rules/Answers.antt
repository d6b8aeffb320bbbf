use Rattle.std.proofs.Common.{ℕ, Err, ap, subst}
use Rattle.hera_guard_lines.specs.Lines.{IsSyntaxAt}
use Rattle.hera_guarded.specs.Reading.{syntax}
use Rattle.hera_guarded.proofs.Lexed.{lexing_refused}
use Rattle.hera_guarded.proofs.script.read_rules.Goals as goal

pub returns-in_err-tokens-clause-refused : goal.returns-in_err-tokens-clause-refused
returns-in_err-tokens-clause-refused c = lexing_refused c.args.script.now _ c.from_residual.result c.requires c.in_err-tokens.ensures c.from_residual.ensures.1

pub returns-in-Err-Syntax-clause-refused : goal.returns-in-Err-Syntax-clause-refused
returns-in-Err-Syntax-clause-refused c =
    let tokens = c.in_ok-tokens.tokens.0 in
    let at = c.in-Err-Syntax.at in
    syntax (record { short = c.requires; lexed = c.in_ok-tokens.ensures.0; shallow = c.in_ok-tokens.ensures.2 })
    (subst (λ (n : ℕ). IsSyntaxAt (tokens, n) at) c.in_ok-tokens.ensures.1 (c.in-Err-Syntax.ensures.syntax at (ap Err c.in-Err-Syntax.field-0-is)))
