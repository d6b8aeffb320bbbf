-- What the tokens of a script keep.
use Rattle.std.specs.Prelude.{◌≡◌, ℕ, ◌+◌, ◌-◌, ◌≤◌, List, [], ◌∷◌, Option, Some, None, Bool, true, false, cond, ◌==◌, length}
use Rattle.hera_syntax.specs.declared.token.TokenKind.{TokenKind}
use Rattle.hera_syntax.specs.declared.token.TokenKind.TheVariants as kinds
use Rattle.hera_syntax.specs.declared.token.Token.{Token}
use Rattle.hera_syntax.specs.declared.words.Mark.TheVariants as puncts
use Rattle.hera_syntax.specs.declared.tokens.TheConstants.{SCRIPT_LIMIT, DEPTH_LIMIT}
use Rattle.hera_meaning.specs.Identifiers.{IsIdentifier}
use Rattle.hera_meaning.specs.Scalars.{fits_int}
use Rattle.hera_meaning.specs.Texts.{IsText}

-- the most bytes of a script, and so the most tokens
abbrev pub script_limit : ℕ
script_limit = SCRIPT_LIMIT

-- an opening bracket
abbrev pub opens : TokenKind → Bool
opens (kinds.Punct puncts.OpenParen) = true
opens (kinds.Punct puncts.OpenSquare) = true
opens (kinds.Punct puncts.OpenBrace) = true
opens _ = false

-- a closing bracket
abbrev pub closes : TokenKind → Bool
closes (kinds.Punct puncts.CloseParen) = true
closes (kinds.Punct puncts.CloseSquare) = true
closes (kinds.Punct puncts.CloseBrace) = true
closes _ = false

-- where the depth, which is this before the tokens, passes its limit
abbrev pub deep_at : ℕ → List Token → Option ℕ
deep_at depth [] = None
deep_at depth (t ∷ ts) =
    cond (opens t.kind) (cond (depth == DEPTH_LIMIT) (Some t.at) (deep_at (depth + 1) ts))
    (cond (closes t.kind) (deep_at (depth - 1) ts) (deep_at depth ts))

-- the offsets ascend, from n on
abbrev pub AscendsFrom : ℕ → List Token → Type 0
AscendsFrom n [] = Unit {0}
AscendsFrom n (t ∷ ts) = (n ≤ t.at) × AscendsFrom (t.at + 1) ts

-- a name has an identifier's shape, an int is in range, and a text is one
abbrev pub HasValue : TokenKind → Type 0
HasValue (kinds.Ident name) = IsIdentifier name
HasValue (kinds.Int n) = fits_int n ≡ true
HasValue (kinds.Text text) = IsText text
HasValue (kinds.Key k) = Unit {0}
HasValue (kinds.Punct m) = Unit {0}

abbrev pub HaveValues : List Token → Type 0
HaveValues [] = Unit {0}
HaveValues (t ∷ ts) = HasValue t.kind × HaveValues ts

-- at most script_limit tokens, whose offsets ascend, with at most 64 open brackets, names of an identifier's
-- shape, ints in range and texts that are texts
pub record AreTokens (tokens : List Token) : Type 0 where
  pub few : length tokens ≤ script_limit
  pub ascending : AscendsFrom 0 tokens
  pub shallow : deep_at 0 tokens ≡ None
  pub values : HaveValues tokens
