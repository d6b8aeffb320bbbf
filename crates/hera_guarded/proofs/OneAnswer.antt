-- A script of guard lines is refused in one way at most, or it writes one list of lines.
use Rattle.std.proofs.Common.{◌≡◌, ℕ, ◌<◌, ◌≤◌, ◌⊎◌, ⊎_elim, List, [], length, Ok, Err, refl, sym, ap, ◌∙◌, subst, arith}
use Rattle.std.specs.Prelude.{Result}
use Rattle.hera_syntax.specs.declared.token.Token.{Token}
use Rattle.hera_syntax.specs.Tokens.{script_limit}
use Rattle.hera_lexer.specs.declared.script.LexFault.{LexFault}
use Rattle.hera_lexer.specs.declared.script.LexFault.TheVariants as lexing
use Rattle.hera_lexer.specs.Answers as lexer
use Rattle.hera_script.specs.declared.cause.Cause.{Cause}
use Rattle.hera_script.specs.declared.cause.Cause.TheVariants.{TooLong, Syntax}
use Rattle.hera_script.specs.declared.program.ScriptFault.{ScriptFault}
use Rattle.hera_script.specs.declared.program.ScriptFault.TheVariants.{Refused, Memory}
use Rattle.hera_script.specs.Faults.{of_lexing}
use Rattle.hera_script.specs.Refusing.{HasTokens}
use Rattle.hera_guard_lines.specs.declared.lines.GuardLine.{GuardLine}
use Rattle.hera_guard_lines.specs.Lines.{AreLines, IsSyntaxAt}
use Rattle.hera_guarded.specs.Reading.{IsWritten, IsRulesRefused, too_long, bad_utf8, bad_token, too_deep, syntax}
use Rattle.hera_guarded.proofs.OneReading.{one_syntax, lines_or_syntax, one_lines}

-- the stage that refuses
data Found (script : List ℕ) : Cause → ℕ → Type 0 where
  by_length : script_limit < length script → Found script TooLong script_limit
  by_lexing : {c : Cause} {a : ℕ} (fault : LexFault) → length script ≤ script_limit → lexer.Answers script (Err fault) → of_lexing fault ≡ Refused c a → Found script c a
  by_syntax : {tokens : List Token} {a : ℕ} → HasTokens script tokens → IsSyntaxAt (tokens, length script) a → Found script Syntax a

found : (script : List ℕ) (c : Cause) (a : ℕ) → IsRulesRefused script c a → Found script c a
found script _ _ (too_long long) = by_length long
found script _ _ (bad_utf8 short bad) = by_lexing (lexing.BadUtf8 _) short (bad, refl) refl
found script _ _ (bad_token {at = at} short fails) = by_lexing (lexing.BadToken at) short fails refl
found script _ _ (too_deep {at = at} {tokens = tokens} short lexed deep) = by_lexing (lexing.TooDeep at) short (tokens, lexed, deep) refl
found script _ _ (syntax has fault) = by_syntax has fault

abbrev cause_in : Cause → ScriptFault → Cause
cause_in d (Refused c a) = c
cause_in d Memory = d

abbrev offset_in : ScriptFault → ℕ
offset_in (Refused c a) = a
offset_in Memory = 0

same_parts : (c d : Cause) (a b : ℕ) → Refused c a ≡ Refused d b → (c ≡ d) × (a ≡ b)
same_parts c d a b is = (ap (cause_in c) is, ap offset_in is)

abbrev tokens_in : Result (List Token × ℕ) LexFault → List Token
tokens_in (Ok tokens) = tokens.0
tokens_in (Err fault) = []

abbrev failed : LexFault → Result (List Token × ℕ) LexFault
failed fault = Err fault

abbrev fault_in : Result (List Token × ℕ) LexFault → LexFault
fault_in (Ok tokens) = lexing.Memory
fault_in (Err fault) = fault

module _ (script : List ℕ) (one : (r s : Result (List Token × ℕ) LexFault) → lexer.Answers script r → lexer.Answers script s → (r ≡ s) ⊎ (r ≡ Err lexing.Memory) ⊎ (s ≡ Err lexing.Memory)) where
  answer_of : (tokens : List Token) → HasTokens script tokens → lexer.Answers script (Ok (tokens, length script))
  answer_of tokens has = (has.lexed, refl, has.shallow)

  no_memory : (fault : LexFault) (c : Cause) (a : ℕ) → of_lexing fault ≡ Refused c a → failed fault ≡ failed lexing.Memory → ⊥
  no_memory fault c a is memory = let same : of_lexing lexing.Memory ≡ Refused c a = ap of_lexing (sym (ap fault_in memory)) ∙ is in cc (same)

  same_tokens : (ts us : List Token) → HasTokens script ts → HasTokens script us → ts ≡ us
  same_tokens ts us t u =
      ⊎_elim (λ (same : Ok (ts, length script) ≡ Ok (us, length script)). ap tokens_in same)
      (λ bad. absurd (⊎_elim (λ (m : Ok (ts, length script) ≡ Err lexing.Memory). cc (m)) (λ (m : Ok (us, length script) ≡ Err lexing.Memory). cc (m)) bad))
      (one (Ok (ts, length script)) (Ok (us, length script)) (answer_of ts t) (answer_of us u))

  not_both : (fault : LexFault) (c : Cause) (a : ℕ) (ts : List Token) → lexer.Answers script (Err fault) → of_lexing fault ≡ Refused c a → HasTokens script ts → ⊥
  not_both fault c a ts fails is has =
      ⊎_elim (λ (same : Err fault ≡ Ok (ts, length script)). cc (same))
      (λ bad. ⊎_elim (λ (m : failed fault ≡ failed lexing.Memory). no_memory fault c a is m) (λ (m : Ok (ts, length script) ≡ Err lexing.Memory). cc (m)) bad)
      (one (Err fault) (Ok (ts, length script)) fails (answer_of ts has))

  same_lexing : (f g : LexFault) (c d : Cause) (a b : ℕ) → lexer.Answers script (Err f) → lexer.Answers script (Err g) → of_lexing f ≡ Refused c a → of_lexing g ≡ Refused d b → (c ≡ d) × (a ≡ b)
  same_lexing f g c d a b x y is js =
      ⊎_elim (λ (same : failed f ≡ failed g). same_parts c d a b (sym is ∙ ap of_lexing (ap fault_in same) ∙ js))
      (λ bad. absurd (⊎_elim (λ (m : failed f ≡ failed lexing.Memory). no_memory f c a is m) (λ (m : failed g ≡ failed lexing.Memory). no_memory g d b js m) bad))
      (one (Err f) (Err g) x y)

  same_syntax : (ts us : List Token) (a b : ℕ) → HasTokens script ts → HasTokens script us → IsSyntaxAt (ts, length script) a → IsSyntaxAt (us, length script) b → a ≡ b
  same_syntax ts us a b t u f g = one_syntax us (length script) a b (subst (λ (l : List Token). IsSyntaxAt (l, length script) a) (same_tokens ts us t u) f) g

  one_found : (c d : Cause) (a b : ℕ) → Found script c a → Found script d b → (c ≡ d) × (a ≡ b)
  one_found _ _ _ _ (by_length long) (by_length more) = (refl, refl)
  one_found _ _ _ _ (by_length long) (by_lexing g short y js) = absurd (omega arith)
  one_found _ _ _ _ (by_length long) (by_syntax u g) = absurd (let short = u.short in omega arith)
  one_found _ _ _ _ (by_lexing f short x is) (by_length more) = absurd (omega arith)
  one_found _ _ _ _ (by_lexing f short x is) (by_lexing g also y js) = same_lexing f g _ _ _ _ x y is js
  one_found _ _ _ _ (by_lexing f short x is) (by_syntax u g) = absurd (not_both f _ _ _ x is u)
  one_found _ _ _ _ (by_syntax t f) (by_length more) = absurd (let short = t.short in omega arith)
  one_found _ _ _ _ (by_syntax t f) (by_lexing g also y js) = absurd (not_both g _ _ _ y js t)
  one_found _ _ _ _ (by_syntax t f) (by_syntax u g) = (refl, same_syntax _ _ _ _ t u f g)

  pub one_refusal : (c d : Cause) (a b : ℕ) → IsRulesRefused script c a → IsRulesRefused script d b → (c ≡ d) × (a ≡ b)
  one_refusal c d a b x y = one_found c d a b (found script c a x) (found script d b y)

  pub one_written : (x y : List GuardLine) → IsWritten script x → IsWritten script y → x ≡ y
  one_written x y first second = one_lines second.tokens x y (subst (λ (l : List Token). AreLines l x) (same_tokens first.tokens second.tokens first.has second.has) first.writes) second.writes

  not_written : (lines : List GuardLine) (c : Cause) (a : ℕ) → IsWritten script lines → Found script c a → ⊥
  not_written lines _ _ written (by_length long) = let short = written.has.short in omega (arith, short, long)
  not_written lines _ _ written (by_lexing f short x is) = not_both f _ _ _ x is written.has
  not_written lines _ a written (by_syntax t f) =
      lines_or_syntax written.tokens (length script) a lines written.writes (subst (λ (l : List Token). IsSyntaxAt (l, length script) a) (same_tokens _ written.tokens t written.has) f)

  pub never_both : (lines : List GuardLine) (c : Cause) (a : ℕ) → IsWritten script lines → IsRulesRefused script c a → ⊥
  never_both lines c a written x = not_written lines c a written (found script c a x)
