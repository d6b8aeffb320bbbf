-- The pieces that a script is cut into, by their characters.
use Rattle.std.specs.Prelude.{◌≡◌, ℕ, ◌+◌, ◌-◌, ◌*◌, ◌<◌, ◌≤◌, ◌^◌, List, [], ◌∷◌, ◌++◌, Option, Some, None, Bool, true, cond, not, ◌||◌, ◌==◌, length, pos}
use Rattle.std.specs.List.{list_all, fold}
use Rattle.std.specs.Char.{is_ascii_digit}
use Rattle.std.specs.Str.{encode_utf8_all}
use Rattle.hera_meaning.specs.Identifiers.{is_word, identifier_limit}
use Rattle.hera_meaning.specs.Texts.{text_limit}
use Rattle.hera_syntax.specs.declared.words.Keyword.{Keyword}
use Rattle.hera_syntax.specs.declared.words.Mark.{Mark}
use Rattle.hera_syntax.specs.Words.{keyword_text, mark_text}
use Rattle.hera_syntax.specs.declared.token.PieceShape.{PieceShape}
use Rattle.hera_syntax.specs.declared.token.PieceShape.TheVariants as shapes
use Rattle.hera_syntax.specs.declared.token.TokenKind.{TokenKind}
use Rattle.hera_syntax.specs.declared.token.TokenKind.TheVariants as kinds

-- space, tab, line feed, carriage return
abbrev pub is_blank : ℕ → Bool
is_blank c = (c == 32) || (c == 9) || (c == 10) || (c == 13)

-- what stands for itself between quotes: all but `"`, `\`, line feed, carriage return and U+0000
abbrev pub is_plain : ℕ → Bool
is_plain c = not ((c == 34) || (c == 92) || (c == 10) || (c == 13) || (c == 0))

-- what stands behind a `\`, and what both stand for
abbrev pub escape_of : ℕ → Option ℕ
escape_of c = cond (c == 34) (Some 34) (cond (c == 92) (Some 92) (cond (c == 110) (Some 10) (cond (c == 116) (Some 9) None)))

-- the characters between two quotes, and the value that they spell
pub data Spells : List ℕ → List ℕ → Type 0 where
  nothing : Spells [] []
  plain : {c : ℕ} {body value : List ℕ} → is_plain c ≡ true → Spells body value → Spells (c ∷ body) (c ∷ value)
  escaped : {c d : ℕ} {body value : List ℕ} → escape_of c ≡ Some d → Spells body value → Spells (92 ∷ c ∷ body) (d ∷ value)

-- no `*/` stands in the characters
abbrev pub HasNoEnd : List ℕ → Type 0
HasNoEnd body = (front back : List ℕ) → body ≡ front ++ 42 ∷ 47 ∷ back → ⊥

-- these characters look like a piece of this shape, whatever its length
pub data IsPiece : PieceShape → List ℕ → Type 0 where
  blank : {c : ℕ} → is_blank c ≡ true → IsPiece shapes.Blank (c ∷ [])
  line_comment : {body : List ℕ} → list_all (λ c. not (c == 10)) body ≡ true → IsPiece shapes.LineComment (47 ∷ 47 ∷ body)
  comment : {body : List ℕ} → HasNoEnd body → IsPiece shapes.Comment (47 ∷ 42 ∷ (body ++ 42 ∷ 47 ∷ []))
  -- a comment that is never closed: no token, but not a `/` and a `*` either
  open_comment : {body : List ℕ} → HasNoEnd body → IsPiece shapes.OpenComment (47 ∷ 42 ∷ body)
  word : {c : ℕ} {cs : List ℕ} → is_word (c ∷ cs) ≡ true → IsPiece shapes.Word (c ∷ cs)
  digits : {c : ℕ} {cs : List ℕ} → is_ascii_digit c ≡ true → list_all is_ascii_digit cs ≡ true → IsPiece shapes.Digits (c ∷ cs)
  quoted : {body value : List ℕ} → Spells body value → IsPiece shapes.Quoted (34 ∷ (body ++ 34 ∷ []))
  punct : {m : Mark} {cs : List ℕ} → mark_text m ≡ cs → IsPiece (shapes.Punct m) cs

-- piece, of this shape, stands in front of more, and no longer piece of any shape does
pub record IsLongest (shape : PieceShape) (piece more : List ℕ) : Type 0 where
  pub looks : IsPiece shape piece
  pub longest : (other : PieceShape) (front back : List ℕ) → IsPiece other front → front ++ back ≡ piece ++ more → length front ≤ length piece

-- the number that digits spell
abbrev pub number_of : List ℕ → ℕ
number_of cs = fold (λ n c. n * 10 + (c - 48)) 0 cs

-- a piece of this shape is a token within its limit, of this kind
pub data IsToken : PieceShape → List ℕ → TokenKind → Type 0 where
  ident : {cs : List ℕ} → ((k : Keyword) → keyword_text k ≡ cs → ⊥) → length (encode_utf8_all cs) ≤ identifier_limit → IsToken shapes.Word cs (kinds.Ident (encode_utf8_all cs))
  key : {k : Keyword} {cs : List ℕ} → keyword_text k ≡ cs → IsToken shapes.Word cs (kinds.Key k)
  int : {cs : List ℕ} → number_of cs < 2 ^ 63 → IsToken shapes.Digits cs (kinds.Int (pos (number_of cs)))
  text : {body value : List ℕ} → Spells body value → length (encode_utf8_all value) ≤ text_limit → IsToken shapes.Quoted (34 ∷ (body ++ 34 ∷ [])) (kinds.Text (encode_utf8_all value))
  punct : {m : Mark} {cs : List ℕ} → IsToken (shapes.Punct m) cs (kinds.Punct m)

-- a piece that stands between tokens
pub data IsBetween : PieceShape → Type 0 where
  blank : IsBetween shapes.Blank
  line_comment : IsBetween shapes.LineComment
  comment : IsBetween shapes.Comment
