-- Which scripts are refused, with which cause and offset.
use Rattle.std.specs.Prelude.{◌≡◌, ℕ, ◌<◌, ◌≤◌, List, length, Option, Some, None, IsUtf8, slice_get}
use Rattle.std.specs.Str.Lossy.{utf8_valid_len}
use Rattle.hera_syntax.specs.declared.token.Token.{Token}
use Rattle.hera_syntax.specs.declared.tree.Tree.{Tree}
use Rattle.hera_syntax.specs.Lex.{Lex, LexFails}
use Rattle.hera_syntax.specs.Tokens.{deep_at, script_limit}
use Rattle.hera_syntax.specs.Trees.{IsTextOf, IsFaultAt}
use Rattle.hera_host.specs.Tables.{Host}
use Rattle.hera_rules.specs.declared.fault.TypeFault.{TypeFault}
use Rattle.hera_rules.specs.declared.fault.TypeFault.TheVariants as typing
use Rattle.hera_rules.specs.ReadActs.{script_of}
use Rattle.hera_rules.specs.Programs.{FirstFault}
use Rattle.hera_script.specs.declared.cause.Cause.{Cause}
use Rattle.hera_script.specs.declared.cause.Cause.TheVariants.{TooLong, BadUtf8, BadToken, TooDeep, Syntax, Unknown, Repeated, Mismatch, Impure, NoReturn, TooMany}

-- the offset of a token, the script's length where there is no token
abbrev pub offset_or : Option Token → ℕ → ℕ
offset_or None end = end
offset_or (Some token) end = token.at

-- a fault of types has this cause and offset
pub data IsTypeFault : TypeFault → Cause → ℕ → Type 0 where
  unknown : {at : ℕ} → IsTypeFault (typing.Unknown at) Unknown at
  repeated : {at : ℕ} → IsTypeFault (typing.Repeated at) Repeated at
  mismatch : {at : ℕ} → IsTypeFault (typing.Mismatch at) Mismatch at
  impure : {at : ℕ} → IsTypeFault (typing.Impure at) Impure at
  no_return : {at : ℕ} → IsTypeFault (typing.NoReturn at) NoReturn at
  too_many : {at : ℕ} → IsTypeFault (typing.TooMany at) TooMany at

-- the script is cut into these tokens, and at most 64 brackets are open at once
pub record HasTokens (script : List ℕ) (tokens : List Token) : Type 0 where
  pub short : length script ≤ script_limit
  pub lexed : Lex script tokens
  pub shallow : deep_at 0 tokens ≡ None

-- the script is refused: it is too long; or its first bytes that are not UTF-8 stand there; or its first place
-- without a token; or its first bracket at depth 65; or the first token behind which no program goes on so; or
-- its first fault of types
pub data IsRefused (hosts : List Host) (script : List ℕ) : Cause → ℕ → Type 0 where
  too_long : script_limit < length script → IsRefused hosts script TooLong script_limit
  bad_utf8 : length script ≤ script_limit → ¬ IsUtf8 script → IsRefused hosts script BadUtf8 (utf8_valid_len script)
  bad_token : {at : ℕ} → length script ≤ script_limit → LexFails script at → IsRefused hosts script BadToken at
  too_deep : {at : ℕ} {tokens : List Token} → length script ≤ script_limit → Lex script tokens → deep_at 0 tokens ≡ Some at → IsRefused hosts script TooDeep at
  syntax : {tokens : List Token} {place : ℕ} → HasTokens script tokens → IsFaultAt tokens place
      → IsRefused hosts script Syntax (offset_or (slice_get tokens place) (length script))
  types : {tokens : List Token} {tree : Tree} {fault : TypeFault} {cause : Cause} {at : ℕ} → HasTokens script tokens → IsTextOf tree tokens
      → FirstFault hosts (script_of tree) fault → IsTypeFault fault cause at → IsRefused hosts script cause at
