-- What the tokens of a cut keep.
use Rattle.std.proofs.Common.{◌≡◌, ℕ, ◌+◌, ◌≤◌, List, [], ◌∷◌, length, ◌++◌, true, None, refl, ap, arith, rules, tests}
use Rattle.std.proofs.Math.Utf8.{scalar, scalars}
use Rattle.std.proofs.lemmas.Bool.{and_parts}
use Rattle.std.proofs.lemmas.Str.{length-le-encodes}
use Rattle.hera_syntax.specs.declared.token.PieceShape.{PieceShape}
use Rattle.hera_syntax.specs.declared.token.TokenKind.{TokenKind}
use Rattle.hera_syntax.specs.declared.token.Token.{Token}
use Rattle.hera_syntax.specs.Lexemes.{IsPiece, IsToken, ident, key, int, text, punct, word}
use Rattle.hera_meaning.specs.Identifiers.{is_word}
use Rattle.hera_syntax.specs.declared.token.PieceShape.TheVariants as shapes
use Rattle.hera_syntax.specs.Lex.{size, Cuts, Lex, done, skip, keep}
use Rattle.hera_syntax.specs.Tokens.{deep_at, AscendsFrom, HasValue, HaveValues, AreTokens, script_limit}
use Rattle.hera_lexer.proofs.Bytes.{size-append}
use Rattle.hera_lexer.proofs.Texts.{text_value}
use Rattle.hera_lexer.proofs.Walk.{piece_some, scalars_front, scalars_back}

size_some : (k : PieceShape) (p : List ℕ) → IsPiece k p → 1 ≤ size p
size_some k p h = omega (arith, length-le-encodes p, piece_some k p h)

few : (at : ℕ) (cs : List ℕ) (ts : List Token) → Cuts at cs ts → length ts ≤ size cs
few at _ _ done = omega arith
few at _ _ (skip {shape = k} {piece = p} {more = x} {tokens = ts} l b c) = omega (arith, few (at + size p) x ts c, size-append p x)
few at _ _ (keep {shape = k} {piece = p} {more = x} {tokens = ts} l t c) = omega (arith, few (at + size p) x ts c, size-append p x, size_some k p l.looks)

ascends_less : (m n : ℕ) (ts : List Token) → m ≤ n → AscendsFrom n ts → AscendsFrom m ts
ascends_less m n [] h a = tt
ascends_less m n (t ∷ ts) h a = (omega (arith, a.0), a.1)

ascends : (at : ℕ) (cs : List ℕ) (ts : List Token) → Cuts at cs ts → AscendsFrom at ts
ascends at _ _ done = tt
ascends at _ _ (skip {piece = p} {more = x} {tokens = ts} l b c) = ascends_less at (at + size p) ts (omega arith) (ascends (at + size p) x ts c)
ascends at _ _ (keep {shape = k} {piece = p} {more = x} {tokens = ts} l t c) =
    (omega arith, ascends_less (at + 1) (at + size p) ts (omega (arith, size_some k p l.looks)) (ascends (at + size p) x ts c))

piece_word : (p : List ℕ) → IsPiece shapes.Word p → is_word p ≡ true
piece_word _ (word w) = w

has_value : (k : PieceShape) (p : List ℕ) (kind : TokenKind) → scalars p ≡ true → IsPiece k p → IsToken k p kind → HasValue kind
has_value _ p _ s h (ident n l) = record { chars = p; scalars = s; word = piece_word p h; spelled = refl; short = l }
has_value _ p _ s h (key n) = tt
has_value _ p _ s h (int n) = search (rules, tests)
has_value _ _ _ s h (text {body} {value} n l) = text_value body value n (scalars_front body (34 ∷ []) (and_parts (scalar 34) (scalars (body ++ 34 ∷ [])) s).1) l
has_value _ p _ s h punct = tt

have_values : (at : ℕ) (cs : List ℕ) (ts : List Token) → scalars cs ≡ true → Cuts at cs ts → HaveValues ts
have_values at _ _ s done = tt
have_values at _ _ s (skip {piece = p} {more = x} {tokens = ts} l b c) = have_values (at + size p) x ts (scalars_back p x s) c
have_values at _ _ s (keep {shape = k} {piece = p} {more = x} {kind} {tokens = ts} l t c) =
    (has_value k p kind (scalars_front p x s) l.looks t, have_values (at + size p) x ts (scalars_back p x s) c)

pub are_tokens : (bytes : List ℕ) (ts : List Token) → Lex bytes ts → length bytes ≤ script_limit → deep_at 0 ts ≡ None → AreTokens ts
are_tokens bytes ts h short shallow = record {
  few = omega (arith, few 0 h.0 ts h.3, ap length h.2);
  ascending = ascends 0 h.0 ts h.3;
  shallow = shallow;
  values = have_values 0 h.0 ts h.1 h.3;
}
