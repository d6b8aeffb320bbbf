-- The text of lines `R.a: f;`, and where tokens are no such lines.
use Rattle.std.specs.Prelude.{◌≡◌, ℕ, zero, suc, List, [], ◌∷◌, ◌++◌, map, length, Option, None, Some, slice_get}
use Rattle.hera_syntax.specs.declared.token.TokenKind.TheVariants.{Ident, Punct}
use Rattle.hera_syntax.specs.declared.token.Token.{Token}
use Rattle.hera_syntax.specs.declared.token.Terminal.{Terminal}
use Rattle.hera_syntax.specs.declared.token.Terminal.TheVariants as terminals
use Rattle.hera_syntax.specs.declared.words.Mark.{Mark}
use Rattle.hera_syntax.specs.declared.words.Mark.TheVariants.{Dot, Colon, Semicolon}
use Rattle.hera_syntax.specs.Grammar.{terminal_of}
use Rattle.hera_guard_lines.specs.declared.lines.Mention.{Mention}
use Rattle.hera_guard_lines.specs.declared.lines.GuardLine.{GuardLine}

-- ---- lines

-- a line: relation, `.`, attribute, `:`, host, `;`
abbrev pub line_form : List Terminal
line_form = terminals.Name ∷ terminals.Punct Dot ∷ terminals.Name ∷ terminals.Punct Colon ∷ terminals.Name ∷ terminals.Punct Semicolon ∷ []

-- so many lines
abbrev pub lines_form : ℕ → List Terminal
lines_form zero = []
lines_form (suc n) = line_form ++ lines_form n

abbrev pub terminals_of : List Token → List Terminal
terminals_of tokens = map (λ (t : Token). terminal_of t.kind) tokens

abbrev pub name_token : Mention → Token
name_token m = record { kind = Ident m.name; at = m.at }

abbrev pub mark_token : Mark → ℕ → Token
mark_token mark at = record { kind = Punct mark; at = at }

-- the tokens of a line, whose punctuation stands at these offsets
abbrev pub line_tokens : GuardLine → (dot colon semicolon : ℕ) → List Token
line_tokens l i j k =
    name_token l.relation ∷ mark_token Dot i ∷ name_token l.attribute ∷ mark_token Colon j ∷ name_token l.host ∷ mark_token Semicolon k ∷ []

-- the tokens write these lines, one after another
pub data AreLines : List Token → List GuardLine → Type 0 where
  none : AreLines [] []
  line : {l : GuardLine} {i j k : ℕ} {tokens : List Token} {lines : List GuardLine} → AreLines tokens lines → AreLines (line_tokens l i j k ++ tokens) (l ∷ lines)

-- ---- where there are none

-- lines may go on from the tokens
abbrev pub BeginLines : List Token → Type 0
BeginLines tokens = (n : ℕ) × (more : List Terminal) × (terminals_of tokens ++ more ≡ lines_form n)

-- The tokens are no lines, and this is the place: lines may go on from those before it, and do not with the one at
-- the place. It is their number where lines may go on from all of them.
pub record IsFaultAt (tokens : List Token) (place : ℕ) : Type 0 where
  pub front : List Token
  pub rest : List Token
  pub cut : tokens ≡ front ++ rest
  pub here : place ≡ length front
  pub begins : BeginLines front
  pub no_more : (t : Token) (later : List Token) → rest ≡ t ∷ later → ¬ BeginLines (front ++ t ∷ [])
  pub no_lines : (n : ℕ) → ¬ (terminals_of tokens ≡ lines_form n)

-- the offset of the token of a number, and of none the length of the text
abbrev pub offset_or : Option Token → ℕ → ℕ
offset_or (Some t) script = t.at
offset_or None script = script

-- the tokens of a text of this length are no lines, and the offset of the place
abbrev pub IsSyntaxAt : List Token × ℕ → ℕ → Type 0
IsSyntaxAt tokens at = (place : ℕ) × IsFaultAt tokens.0 place × (at ≡ offset_or (slice_get tokens.0 place) tokens.1)
