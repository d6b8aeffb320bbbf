-- What the faults of the crates below are for a script.
use Rattle.std.specs.Prelude.{ℕ, List, slice_get}
use Rattle.hera_syntax.specs.declared.token.Token.{Token}
use Rattle.hera_syntax.specs.Trees.{IsFaultAt}
use Rattle.hera_lexer.specs.declared.script.LexFault.{LexFault}
use Rattle.hera_lexer.specs.declared.script.LexFault.TheVariants as lexing
use Rattle.hera_rules.specs.declared.fault.TypeFault.{TypeFault}
use Rattle.hera_rules.specs.declared.fault.TypeFault.TheVariants as typing
use Rattle.hera_script.specs.declared.cause.Cause.{Cause}
use Rattle.hera_script.specs.declared.cause.Cause.TheVariants.{BadUtf8, BadToken, TooDeep, Syntax, Unknown, Repeated, Mismatch, Impure, NoReturn, TooMany}
use Rattle.hera_script.specs.declared.program.ScriptFault.{ScriptFault}
use Rattle.hera_script.specs.declared.program.ScriptFault.TheVariants.{Refused, Memory}
use Rattle.hera_script.specs.Refusing.{offset_or}

abbrev pub of_lexing : LexFault → ScriptFault
of_lexing (lexing.BadUtf8 at) = Refused BadUtf8 at
of_lexing (lexing.BadToken at) = Refused BadToken at
of_lexing (lexing.TooDeep at) = Refused TooDeep at
of_lexing lexing.Memory = Memory

abbrev pub of_typing : TypeFault → ScriptFault
of_typing (typing.Unknown at) = Refused Unknown at
of_typing (typing.Repeated at) = Refused Repeated at
of_typing (typing.Mismatch at) = Refused Mismatch at
of_typing (typing.Impure at) = Refused Impure at
of_typing (typing.NoReturn at) = Refused NoReturn at
of_typing (typing.TooMany at) = Refused TooMany at
of_typing typing.Memory = Memory

-- the tokens of a script of this length are no tree's text, for this cause, at this offset
pub data IsUnreadable (tokens : List Token × ℕ) : Cause → ℕ → Type 0 where
  unreadable : {place : ℕ} → IsFaultAt tokens.0 place → IsUnreadable tokens Syntax (offset_or (slice_get tokens.0 place) tokens.1)
