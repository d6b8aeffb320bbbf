-- A script has one answer.
use Rattle.std.proofs.Common.{◌≡◌, ℕ, List, Some, None, Result, Ok, Err, IsUtf8, sym, refl, ap, ◌∙◌, inl, inr}
use Rattle.std.specs.Prelude.{◌⊎◌}
use Rattle.std.proofs.lemmas.Option.{same_Some}
use Rattle.std.proofs.lemmas.Str.{encodes_same}
use Rattle.hera_syntax.specs.declared.token.Token.{Token}
use Rattle.hera_syntax.specs.Lex.{Lex, LexFails}
use Rattle.hera_syntax.specs.Tokens.{deep_at}
use Rattle.hera_lexer.specs.declared.script.LexFault.{LexFault}
use Rattle.hera_lexer.specs.declared.script.LexFault.TheVariants.{BadUtf8, BadToken, TooDeep, Memory}
use Rattle.hera_lexer.specs.Answers.{Answers}
use Rattle.hera_lexer.proofs.Outcome.{one_cut, no_fail, one_fail}

one_lex : (bytes : List ℕ) (ts us : List Token) → Lex bytes ts → Lex bytes us → ts ≡ us
one_lex bytes ts us a b = one_cut 0 a.0 ts a.3 b.0 us (encodes_same a.0 b.0 (a.2 ∙ sym b.2)) b.3

lex_no_fail : (bytes : List ℕ) (ts : List Token) (place : ℕ) → Lex bytes ts → LexFails bytes place → ⊥
lex_no_fail bytes ts place a b = no_fail 0 a.0 ts a.3 b.0 place (encodes_same a.0 b.0 (a.2 ∙ sym b.2)) b.3

one_place : (bytes : List ℕ) (x y : ℕ) → LexFails bytes x → LexFails bytes y → x ≡ y
one_place bytes x y a b = one_fail 0 a.0 x a.3 b.0 y (encodes_same a.0 b.0 (a.2 ∙ sym b.2)) b.3

lex_utf8 : (bytes : List ℕ) (ts : List Token) → Lex bytes ts → IsUtf8 bytes
lex_utf8 bytes ts a = (a.0, (a.1, a.2))

fails_utf8 : (bytes : List ℕ) (place : ℕ) → LexFails bytes place → IsUtf8 bytes
fails_utf8 bytes place a = (a.0, (a.1, a.2))

abbrev One : Result (List Token × ℕ) LexFault → Result (List Token × ℕ) LexFault → Type 0
One r s = (r ≡ s) ⊎ (r ≡ Err Memory) ⊎ (s ≡ Err Memory)

at_ok : (bytes : List ℕ) (x : List Token × ℕ) (s : Result (List Token × ℕ) LexFault) → Answers bytes (Ok x) → Answers bytes s → One (Ok x) s
at_ok bytes x (Ok y) a b = let tokens = one_lex bytes x.0 y.0 a.0 b.0 in let long : x.1 ≡ y.1 = a.1 ∙ sym b.1 in inl ((ap (λ t. Ok (t, x.1)) tokens ∙ ap (λ n. Ok (y.0, n)) long))
at_ok bytes x (Err (BadUtf8 at)) a b = absurd (b.0 (lex_utf8 bytes x.0 a.0))
at_ok bytes x (Err (BadToken at)) a b = absurd (lex_no_fail bytes x.0 at a.0 b)
at_ok bytes x (Err (TooDeep at)) a b = let none : None ≡ Some at = sym a.2 ∙ ap (deep_at 0) (one_lex bytes x.0 b.0 a.0 b.1) ∙ b.2 in cc
at_ok bytes x (Err Memory) a b = inr (inr refl)

at_utf8 : (bytes : List ℕ) (n : ℕ) (s : Result (List Token × ℕ) LexFault) → Answers bytes (Err (BadUtf8 n)) → Answers bytes s → One (Err (BadUtf8 n)) s
at_utf8 bytes n (Ok y) a b = absurd (a.0 (lex_utf8 bytes y.0 b.0))
at_utf8 bytes n (Err (BadUtf8 at)) a b = inl ((ap (λ k. Err (BadUtf8 k)) (a.1 ∙ sym b.1)))
at_utf8 bytes n (Err (BadToken at)) a b = absurd (a.0 (fails_utf8 bytes at b))
at_utf8 bytes n (Err (TooDeep at)) a b = absurd (a.0 (lex_utf8 bytes b.0 b.1))
at_utf8 bytes n (Err Memory) a b = inr (inr refl)

at_token : (bytes : List ℕ) (n : ℕ) (s : Result (List Token × ℕ) LexFault) → Answers bytes (Err (BadToken n)) → Answers bytes s → One (Err (BadToken n)) s
at_token bytes n (Ok y) a b = absurd (lex_no_fail bytes y.0 n b.0 a)
at_token bytes n (Err (BadUtf8 at)) a b = absurd (b.0 (fails_utf8 bytes n a))
at_token bytes n (Err (BadToken at)) a b = inl ((ap (λ k. Err (BadToken k)) (one_place bytes n at a b)))
at_token bytes n (Err (TooDeep at)) a b = absurd (lex_no_fail bytes b.0 n b.1 a)
at_token bytes n (Err Memory) a b = inr (inr refl)

at_deep : (bytes : List ℕ) (n : ℕ) (s : Result (List Token × ℕ) LexFault) → Answers bytes (Err (TooDeep n)) → Answers bytes s → One (Err (TooDeep n)) s
at_deep bytes n (Ok y) a b = let none : None ≡ Some n = sym b.2 ∙ ap (deep_at 0) (one_lex bytes y.0 a.0 b.0 a.1) ∙ a.2 in cc
at_deep bytes n (Err (BadUtf8 at)) a b = absurd (b.0 (lex_utf8 bytes a.0 a.1))
at_deep bytes n (Err (BadToken at)) a b = absurd (lex_no_fail bytes a.0 at a.1 b)
at_deep bytes n (Err (TooDeep at)) a b =
    let same : Some n ≡ Some at = sym a.2 ∙ ap (deep_at 0) (one_lex bytes a.0 b.0 a.1 b.1) ∙ b.2 in inl ((ap (λ k. Err (TooDeep k)) (same_Some n at same)))
at_deep bytes n (Err Memory) a b = inr (inr refl)

pub one_verdict : (bytes : List ℕ) (r s : Result (List Token × ℕ) LexFault) → Answers bytes r → Answers bytes s → (r ≡ s) ⊎ (r ≡ Err Memory) ⊎ (s ≡ Err Memory)
one_verdict bytes (Ok x) s a b = at_ok bytes x s a b
one_verdict bytes (Err (BadUtf8 n)) s a b = at_utf8 bytes n s a b
one_verdict bytes (Err (BadToken n)) s a b = at_token bytes n s a b
one_verdict bytes (Err (TooDeep n)) s a b = at_deep bytes n s a b
one_verdict bytes (Err Memory) s a b = inr (inl refl)
