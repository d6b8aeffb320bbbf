-- What a piece is read as.
use Rattle.std.specs.Prelude.{ℕ, List}
use Rattle.hera_syntax.specs.declared.token.PieceShape.{PieceShape}
use Rattle.hera_syntax.specs.declared.token.TokenKind.{TokenKind}
use Rattle.hera_syntax.specs.Lexemes.{IsToken, IsBetween}
use Rattle.hera_lexer.specs.declared.read.Reading.{Reading}
use Rattle.hera_lexer.specs.declared.read.Reading.TheVariants.{Between, Kept, Refused}

abbrev pub Reads : PieceShape → List ℕ → Reading → Type 0
Reads shape cs Between = IsBetween shape
Reads shape cs (Kept kind) = IsToken shape cs kind
Reads shape cs Refused = (IsBetween shape → ⊥) × ((kind : TokenKind) → IsToken shape cs kind → ⊥)
