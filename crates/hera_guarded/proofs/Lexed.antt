-- Scripts of guard lines that are refused.
use Rattle.std.proofs.Common.{◌≡◌, ◌≤◌, ℕ, List, length, Result, Ok, Err, IfErr, sym, subst}
use Rattle.std.specs.Prelude.{IsErrAnd}
use Rattle.hera_syntax.specs.Tokens.{script_limit}
use Rattle.hera_lexer.specs.declared.script.LexFault.{LexFault}
use Rattle.hera_lexer.specs.declared.script.LexFault.TheVariants as lexing
use Rattle.hera_lexer.specs.Answers as lexer
use Rattle.hera_script.specs.declared.cause.Cause.TheVariants.{BadUtf8}
use Rattle.hera_script.specs.declared.program.ScriptFault.{ScriptFault}
use Rattle.hera_script.specs.Faults.{of_lexing}
use Rattle.hera_guarded.specs.Reading.{IsRulesRefused, bad_utf8, bad_token, too_deep, IsRulesFault}

lexing_fault : (script : List ℕ) (fault : LexFault) → length script ≤ script_limit → lexer.Answers script (Err fault) → IsRulesFault script (of_lexing fault)
lexing_fault script (lexing.BadUtf8 place) short (bad, here) = subst (λ (n : ℕ). IsRulesRefused script BadUtf8 n) (sym here) (bad_utf8 short bad)
lexing_fault script (lexing.BadToken place) short fails = bad_token short fails
lexing_fault script (lexing.TooDeep place) short (tokens, lexed, deep) = too_deep short lexed deep
lexing_fault script lexing.Memory short any = tt

pub lexing_refused : {T : Type 0} (script : List ℕ) (fault : LexFault) (r : Result T ScriptFault) → length script ≤ script_limit → lexer.Answers script (Err fault) → IsErrAnd r (λ e. e ≡ of_lexing fault) → IfErr r (IsRulesFault script)
lexing_refused script fault (Ok x) short answers given = absurd given
lexing_refused script fault (Err e) short answers given = subst (IsRulesFault script) (sym given) (lexing_fault script fault short answers)
