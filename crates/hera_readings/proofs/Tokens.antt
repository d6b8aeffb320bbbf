-- Characters are cut into tokens, or their cut gets stuck at some offset.
use Rattle.std.proofs.Common.{◌≡◌, ◌+◌, ◌<◌, ◌≤◌, ◌^◌, ◌⊎◌, inl, inr, ⊎_elim, ℕ, zero, suc, List, [], ◌∷◌, ◌++◌, Option, Some, None, true, false, length, refl, sym, ap, subst, ◌∙◌, arith, length-append, IsUtf8, pos}
use Rattle.std.specs.Str.{chars}
use Rattle.std.proofs.Math.Utf8.{encodes, scalars}
use Rattle.std.proofs.lemmas.Bool.{cases_lt}
use Rattle.std.proofs.lemmas.Str.{chars-encodes}
use Rattle.hera_syntax.specs.declared.words.Keyword.{Keyword}
use Rattle.hera_meaning.specs.Texts.{text_limit}
use Rattle.hera_meaning.specs.Identifiers.{identifier_limit}
use Rattle.hera_syntax.specs.declared.token.PieceShape.{PieceShape}
use Rattle.hera_syntax.specs.declared.token.PieceShape.TheVariants as shapes
use Rattle.hera_syntax.specs.declared.token.TokenKind.{TokenKind}
use Rattle.hera_syntax.specs.declared.token.TokenKind.TheVariants as kinds
use Rattle.hera_syntax.specs.declared.token.Token.{Token}
use Rattle.hera_syntax.specs.Lexemes.{IsPiece, IsLongest, IsToken, IsBetween, punct, blank, line_comment, comment, number_of}
use Rattle.hera_syntax.specs.Lex.{size, Cuts, Fails, Lex, LexFails, done, skip, keep, here}
use Rattle.hera_lexer.specs.Read.{keyword_of, value_of}
use Rattle.hera_lexer.specs.Scan.{scan_of}
use Rattle.std.proofs.lemmas.Str.{length-le-encodes}
use Rattle.hera_lexer.proofs.Bytes.{size-append}
use Rattle.hera_lexer.proofs.Longest.{Found, NoPiece}
use Rattle.hera_lexer.proofs.Scans.{Says, scan_says}
use Rattle.hera_lexer.proofs.Values.{word_key, word_ident, word_refused, digits_int, digits_refused, is_quoted, quoted_token, quoted_refused, open_refused, word_no_between, digits_no_between, quoted_no_between, open_no_between}
use Rattle.hera_lexer.proofs.Walk.{one_longest, piece_some, scalars_front, scalars_back}

-- ---- a piece

-- a piece stands between tokens, or it is a token, or neither
data Judged (k : PieceShape) (p : List ℕ) : Type 0 where
  between : IsBetween k → Judged k p
  token : {kind : TokenKind} → IsToken k p kind → Judged k p
  neither : (IsBetween k → ⊥) → ((kind : TokenKind) → IsToken k p kind → ⊥) → Judged k p

module _ (p : List ℕ) (s : scalars p ≡ true) where
  is_text : IsUtf8 (encodes p)
  is_text = (p, (s, refl))

  same : chars (encodes p) ≡ p
  same = chars-encodes p s

  -- what is a token by its bytes is one
  token_here : (k : PieceShape) (kind : TokenKind) → IsToken k (chars (encodes p)) kind → Judged k p
  token_here k kind t = token (subst (λ z. IsToken k z kind) same t)

  word_judged : (o : Option Keyword) → keyword_of (encodes p) ≡ o → Judged shapes.Word p
  word_judged (Some k) e = token_here shapes.Word (kinds.Key k) (word_key (encodes p) k e)
  word_judged None e = ⊎_elim
      (λ long. neither word_no_between (λ kind t. word_refused (encodes p) is_text e long kind (subst (λ z. IsToken shapes.Word z kind) (sym same) t)))
      (λ short. token_here shapes.Word (kinds.Ident (encodes p)) (word_ident (encodes p) is_text e short))
      (cases_lt identifier_limit (length (encodes p)))

  digits_judged : IsPiece shapes.Digits p → Judged shapes.Digits p
  digits_judged h =
      let are : IsPiece shapes.Digits (chars (encodes p)) = subst (IsPiece shapes.Digits) (sym same) h in ⊎_elim
      (λ small. token_here shapes.Digits (kinds.Int (pos (number_of (encodes p)))) (digits_int (encodes p) (pos (number_of (encodes p))) is_text are refl small))
      (λ great. neither digits_no_between (λ kind t. digits_refused (encodes p) is_text are great kind (subst (λ z. IsToken shapes.Digits z kind) (sym same) t)))
      (cases_lt (number_of (encodes p)) (2 ^ 63))

  quoted_judged : IsPiece shapes.Quoted p → Judged shapes.Quoted p
  quoted_judged h =
      let is : IsPiece shapes.Quoted (chars (encodes p)) = subst (IsPiece shapes.Quoted) (sym same) h in
      let value : List ℕ = value_of false (encodes (is_quoted (chars (encodes p)) is).body) in ⊎_elim
      (λ long. neither quoted_no_between (λ kind t. quoted_refused (encodes p) is_text is long kind (subst (λ z. IsToken shapes.Quoted z kind) (sym same) t)))
      (λ short. token_here shapes.Quoted (kinds.Text value) (quoted_token (encodes p) value is_text is refl short))
      (cases_lt text_limit (length value))

  judged : (k : PieceShape) → IsPiece k p → Judged k p
  judged shapes.Blank h = between blank
  judged shapes.LineComment h = between line_comment
  judged shapes.Comment h = between comment
  judged shapes.OpenComment h = neither open_no_between (open_refused p)
  judged shapes.Word h = word_judged (keyword_of (encodes p)) refl
  judged shapes.Digits h = digits_judged h
  judged shapes.Quoted h = quoted_judged h
  judged (shapes.Punct m) h = token punct

-- ---- a text

abbrev pub CutOrStuck : ℕ → List ℕ → Type 0
CutOrStuck at cs = ((tokens : List Token) × Cuts at cs tokens) ⊎ ((place : ℕ) × Fails at cs place)

abbrev Cutter : ℕ → Type 0
Cutter n = (at : ℕ) (cs : List ℕ) → scalars cs ≡ true → length cs < n → CutOrStuck at cs

no_piece : (at : ℕ) (cs : List ℕ) → (cs ≡ [] → ⊥) → NoPiece cs → CutOrStuck at cs
no_piece at cs some none = inr (at, here (record { some = some; none = λ k p more e l. absurd (none k p more l.looks (sym e)) }))

module _ (at : ℕ) (k : PieceShape) (p more : List ℕ) (longest : IsLongest k p more) where
  passed : IsBetween k → CutOrStuck (at + size p) more → CutOrStuck at (p ++ more)
  passed b (inl (tokens, cuts)) = inl (tokens, skip longest b cuts)
  passed b (inr (place, fails)) = inr (place, skip longest b fails)

  kept : (kind : TokenKind) → IsToken k p kind → CutOrStuck (at + size p) more → CutOrStuck at (p ++ more)
  kept kind t (inl (tokens, cuts)) = inl (record { kind = kind; at = at } ∷ tokens, keep longest t cuts)
  kept kind t (inr (place, fails)) = inr (place, keep longest t fails)

  refused : (p ++ more ≡ [] → ⊥) → (IsBetween k → ⊥) → ((kind : TokenKind) → IsToken k p kind → ⊥) → CutOrStuck at (p ++ more)
  refused some no_between no_token = inr (
    at,
    here (record {
      some = some;
      none = λ j q rest e l. let one = one_longest k j p q more rest longest l e in (
        λ b. no_between (subst IsBetween (sym one.shape) b),
        λ kind t. no_token kind (subst (λ z. IsToken z p kind) (sym one.shape) (subst (λ z. IsToken j z kind) (sym one.piece) t)),
      );
    }),
  )

  by_verdict : (n : ℕ) → Cutter n → (p ++ more ≡ [] → ⊥) → scalars (p ++ more) ≡ true → length (p ++ more) < suc n → Judged k p → CutOrStuck at (p ++ more)
  by_verdict n cut some s l (between b) = passed b (cut (at + size p) more (scalars_back p more s) (let long = length-append p more in let front = piece_some k p longest.looks in omega (arith, long, front, l)))
  by_verdict n cut some s l (token {kind} t) = kept kind t (cut (at + size p) more (scalars_back p more s) (let long = length-append p more in let front = piece_some k p longest.looks in omega (arith, long, front, l)))
  by_verdict n cut some s l (neither b t) = refused some b t

no_nil : (c : ℕ) (cs : List ℕ) → c ∷ cs ≡ [] → ⊥
no_nil c cs e = cc

on_found : (n at : ℕ) → Cutter n → (cs : List ℕ) → (cs ≡ [] → ⊥) → scalars cs ≡ true → length cs < suc n → (k : PieceShape) (m : ℕ) → Found cs k m → CutOrStuck at cs
on_found n at cut cs some s l k m f =
    let all : scalars (f.piece ++ f.more) ≡ true = ap scalars (sym f.cut) ∙ s in
    let long : length (f.piece ++ f.more) < suc n = subst (λ xs. length xs < suc n) f.cut l in
    let judge = judged f.piece (scalars_front f.piece f.more all) k f.longest.looks in
    subst (CutOrStuck at) (sym f.cut) (by_verdict at k f.piece f.more f.longest n cut (λ e. some (f.cut ∙ e)) all long judge)

on_scan : (n at : ℕ) → Cutter n → (cs : List ℕ) → (cs ≡ [] → ⊥) → scalars cs ≡ true → length cs < suc n → (o : Option (PieceShape × ℕ)) → Says cs o → CutOrStuck at cs
on_scan n at cut cs some s l None says = no_piece at cs some says
on_scan n at cut cs some s l (Some (k, m)) says = on_found n at cut cs some s l k m says

cutter : (n : ℕ) → Cutter n
cutter zero at cs s l = absurd (omega (arith, l))
cutter (suc n) at [] s l = inl ([], done)
cutter (suc n) at (c ∷ cs) s l = on_scan n at (cutter n) (c ∷ cs) (no_nil c cs) s l (scan_of (encodes (c ∷ cs))) (scan_says c cs s)

from_cut : (bytes cs : List ℕ) → scalars cs ≡ true → encodes cs ≡ bytes → CutOrStuck 0 cs → ((tokens : List Token) × Lex bytes tokens) ⊎ ((place : ℕ) × LexFails bytes place)
from_cut bytes cs s e (inl (tokens, cuts)) = inl (tokens, (cs, s, e, cuts))
from_cut bytes cs s e (inr (place, fails)) = inr (place, (cs, s, e, fails))

-- a text has tokens or a first place without one
pub tokens_or_place : (bytes : List ℕ) → IsUtf8 bytes → ((tokens : List Token) × Lex bytes tokens) ⊎ ((place : ℕ) × LexFails bytes place)
tokens_or_place bytes (cs, (s, e)) = from_cut bytes cs s e (cutter (suc (length cs)) 0 cs s (omega arith))

-- ---- how many tokens there are

few : (at : ℕ) (cs : List ℕ) (ts : List Token) → Cuts at cs ts → length ts ≤ size cs
few at _ _ done = omega arith
few at _ _ (skip {shape = k} {piece = p} {more = x} {tokens = ts} l b c) = omega (arith, few (at + size p) x ts c, size-append p x)
few at _ _ (keep {shape = k} {piece = p} {more = x} {tokens = ts} l t c) = omega (arith, few (at + size p) x ts c, size-append p x, length-le-encodes p, piece_some k p l.looks)

-- a script has no more tokens than bytes
pub no_more_than_bytes : (bytes : List ℕ) (tokens : List Token) → Lex bytes tokens → length tokens ≤ length bytes
no_more_than_bytes bytes tokens h = omega (arith, few 0 h.0 tokens h.3, ap length h.2)
