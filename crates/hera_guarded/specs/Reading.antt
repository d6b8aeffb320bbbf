-- Scripts of guard lines: what they write, and which are refused.
use Rattle.std.specs.Prelude.{◌≡◌, ℕ, ◌<◌, ◌≤◌, List, length, Some, IsUtf8}
use Rattle.std.specs.Str.Lossy.{utf8_valid_len}
use Rattle.hera_syntax.specs.declared.token.Token.{Token}
use Rattle.hera_syntax.specs.Lex.{Lex, LexFails}
use Rattle.hera_syntax.specs.Tokens.{deep_at, script_limit}
use Rattle.hera_script.specs.declared.cause.Cause.{Cause}
use Rattle.hera_script.specs.declared.cause.Cause.TheVariants.{TooLong, BadUtf8, BadToken, TooDeep, Syntax}
use Rattle.hera_script.specs.declared.program.ScriptFault.{ScriptFault}
use Rattle.hera_script.specs.declared.program.ScriptFault.TheVariants.{Refused, Memory}
use Rattle.hera_script.specs.Refusing.{HasTokens}
use Rattle.hera_guard_lines.specs.declared.lines.GuardLine.{GuardLine}
use Rattle.hera_guard_lines.specs.Lines.{AreLines, IsSyntaxAt}

-- the script writes these lines
pub record IsWritten (script : List ℕ) (lines : List GuardLine) : Type 0 where
  pub tokens : List Token
  pub has : HasTokens script tokens
  pub writes : AreLines tokens lines

-- The script is refused: it is too long; or its first bytes that are not UTF-8 stand there; or its first place without a
-- token; or its first bracket at depth 65; or the first token with which lines do not go on, or its end.
pub data IsRulesRefused (script : List ℕ) : Cause → ℕ → Type 0 where
  too_long : script_limit < length script → IsRulesRefused script TooLong script_limit
  bad_utf8 : length script ≤ script_limit → ¬ IsUtf8 script → IsRulesRefused script BadUtf8 (utf8_valid_len script)
  bad_token : {at : ℕ} → length script ≤ script_limit → LexFails script at → IsRulesRefused script BadToken at
  too_deep : {at : ℕ} {tokens : List Token} → length script ≤ script_limit → Lex script tokens → deep_at 0 tokens ≡ Some at → IsRulesRefused script TooDeep at
  syntax : {at : ℕ} {tokens : List Token} → HasTokens script tokens → IsSyntaxAt (tokens, length script) at → IsRulesRefused script Syntax at

-- the same of a fault, or there was no memory
abbrev pub IsRulesFault : List ℕ → ScriptFault → Type 0
IsRulesFault script (Refused cause at) = IsRulesRefused script cause at
IsRulesFault script Memory = Unit {0}
