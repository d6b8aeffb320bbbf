-- What a script's tokens are, and where there are none.
use Rattle.std.specs.Prelude.{◌≡◌, ℕ, ◌+◌, List, [], ◌∷◌, ◌++◌, length, true}
use Rattle.std.specs.Str.{encode_utf8_all, all_scalars}
use Rattle.hera_syntax.specs.declared.token.PieceShape.{PieceShape}
use Rattle.hera_syntax.specs.declared.token.TokenKind.{TokenKind}
use Rattle.hera_syntax.specs.declared.token.Token.{Token}
use Rattle.hera_syntax.specs.Lexemes.{IsLongest, IsToken, IsBetween}

-- how many bytes characters take
abbrev pub size : List ℕ → ℕ
size cs = length (encode_utf8_all cs)

-- the characters, which begin at the offset at, are cut into these tokens and what stands between them
pub data Cuts : ℕ → List ℕ → List Token → Type 0 where
  done : {at : ℕ} → Cuts at [] []
  skip : {at : ℕ} {shape : PieceShape} {piece more : List ℕ} {tokens : List Token}
      → IsLongest shape piece more → IsBetween shape → Cuts (at + size piece) more tokens → Cuts at (piece ++ more) tokens
  keep : {at : ℕ} {shape : PieceShape} {piece more : List ℕ} {kind : TokenKind} {tokens : List Token}
      → IsLongest shape piece more → IsToken shape piece kind → Cuts (at + size piece) more tokens
      → Cuts at (piece ++ more) (record { kind = kind; at = at } ∷ tokens)

-- no cut goes on here
pub record IsStuck (cs : List ℕ) : Type 0 where
  pub some : cs ≡ [] → ⊥
  pub none : (shape : PieceShape) (piece more : List ℕ) → cs ≡ piece ++ more → IsLongest shape piece more
      → (IsBetween shape → ⊥) × ((kind : TokenKind) → IsToken shape piece kind → ⊥)

-- the cut of the characters gets stuck at this offset
pub data Fails : ℕ → List ℕ → ℕ → Type 0 where
  here : {at : ℕ} {cs : List ℕ} → IsStuck cs → Fails at cs at
  skip : {at place : ℕ} {shape : PieceShape} {piece more : List ℕ}
      → IsLongest shape piece more → IsBetween shape → Fails (at + size piece) more place → Fails at (piece ++ more) place
  keep : {at place : ℕ} {shape : PieceShape} {piece more : List ℕ} {kind : TokenKind}
      → IsLongest shape piece more → IsToken shape piece kind → Fails (at + size piece) more place → Fails at (piece ++ more) place

-- the bytes are a script of these tokens
abbrev pub Lex : List ℕ → List Token → Type 0
Lex bytes tokens = (cs : List ℕ) × (all_scalars cs ≡ true) × (encode_utf8_all cs ≡ bytes) × Cuts 0 cs tokens

-- the bytes are UTF-8, and the first place without a token is here
abbrev pub LexFails : List ℕ → ℕ → Type 0
LexFails bytes place = (cs : List ℕ) × (all_scalars cs ≡ true) × (encode_utf8_all cs ≡ bytes) × Fails 0 cs place
