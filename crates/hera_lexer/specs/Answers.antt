-- What `lex` answers.
use Rattle.std.specs.Prelude.{◌≡◌, ℕ, List, Result, Ok, Err, Some, None, IsUtf8, length}
use Rattle.std.specs.Str.Lossy.{utf8_valid_len}
use Rattle.hera_syntax.specs.declared.token.Token.{Token}
use Rattle.hera_syntax.specs.Lex.{Lex, LexFails}
use Rattle.hera_syntax.specs.Tokens.{deep_at}
use Rattle.hera_lexer.specs.declared.script.LexFault.{LexFault}
use Rattle.hera_lexer.specs.declared.script.LexFault.TheVariants.{BadUtf8, BadToken, TooDeep, Memory}

abbrev pub Answers : List ℕ → Result (List Token × ℕ) LexFault → Type 0
Answers bytes (Ok tokens) = Lex bytes tokens.0 × (tokens.1 ≡ length bytes) × (deep_at 0 tokens.0 ≡ None)
Answers bytes (Err (BadUtf8 at)) = ¬ (IsUtf8 bytes) × (at ≡ utf8_valid_len bytes)
Answers bytes (Err (BadToken at)) = LexFails bytes at
Answers bytes (Err (TooDeep at)) = (tokens : List Token) × Lex bytes tokens × (deep_at 0 tokens ≡ Some at)
Answers bytes (Err Memory) = Unit {0}

-- what can go wrong with the tokens alone
abbrev pub IsTokenFault : LexFault → Type 0
IsTokenFault (BadUtf8 at) = ⊥
IsTokenFault (BadToken at) = Unit {0}
IsTokenFault (TooDeep at) = ⊥
IsTokenFault Memory = Unit {0}
