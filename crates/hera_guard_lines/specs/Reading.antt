-- Lines read from the left.
use Rattle.std.specs.Prelude.{◌≡◌, ℕ, cond, List, [], ◌∷◌, ◌++◌, Option, None, Some, length}
use Rattle.hera_syntax.specs.declared.token.TokenKind.{TokenKind}
use Rattle.hera_syntax.specs.declared.token.TokenKind.TheVariants.{Ident}
use Rattle.hera_syntax.specs.declared.token.Token.{Token}
use Rattle.hera_syntax.specs.declared.token.Terminal.{Terminal}
use Rattle.hera_syntax.specs.declared.token.Terminal.TheVariants as terminals
use Rattle.hera_syntax.specs.declared.words.Mark.TheVariants.{Dot, Colon, Semicolon}
use Rattle.hera_syntax.specs.Grammar.{terminal_of, same_terminal}
use Rattle.hera_guard_lines.specs.declared.lines.GuardLine.{GuardLine}
use Rattle.hera_guard_lines.specs.declared.reader.Stop.{Stop}
use Rattle.hera_guard_lines.specs.declared.reader.Stop.TheVariants.{Syntax, Memory}
use Rattle.hera_guard_lines.specs.Lines.{line_tokens}

-- the name that a token is
abbrev pub ident_of : TokenKind → Option (List ℕ)
ident_of (Ident name) = Some name
ident_of _ = None

-- a line from each of its parts on, but the first
abbrev pub from_semicolon : List Terminal
from_semicolon = terminals.Punct Semicolon ∷ []

abbrev pub from_host : List Terminal
from_host = terminals.Name ∷ from_semicolon

abbrev pub from_colon : List Terminal
from_colon = terminals.Punct Colon ∷ from_host

abbrev pub from_attribute : List Terminal
from_attribute = terminals.Name ∷ from_colon

abbrev pub from_dot : List Terminal
from_dot = terminals.Punct Dot ∷ from_attribute

-- Tokens are read, of which the first are to be this end of a line, and the others lines: how many are left where
-- they first are not.
abbrev pub stuck : List Terminal → List Token → Option ℕ
stuck [] [] = None
stuck [] (t ∷ tokens) = cond (same_terminal terminals.Name (terminal_of t.kind)) (stuck from_dot tokens) (Some (length (t ∷ tokens)))
stuck (w ∷ wanted) [] = Some 0
stuck (w ∷ wanted) (t ∷ tokens) = cond (same_terminal w (terminal_of t.kind)) (stuck wanted tokens) (Some (length (t ∷ tokens)))

-- a line, and the tokens behind it
abbrev pub IsLine : List Token → GuardLine → List Token → Type 0
IsLine tokens l rest = (i : ℕ) × (j : ℕ) × (k : ℕ) × (tokens ≡ line_tokens l i j k ++ rest)

-- the reading stops with so many tokens left, which are those where it is stuck
abbrev pub StopsAt : List Terminal → List Token → Stop → Type 0
StopsAt wanted tokens (Syntax left) = stuck wanted tokens ≡ Some left
StopsAt wanted tokens Memory = Unit {0}
