-- What a reading of a program from the left comes to.
use Rattle.std.specs.Prelude.{◌≡◌, ◌+◌, ℕ, List, [], ◌∷◌, length}
use Rattle.hera_syntax.specs.declared.token.Token.{Token}
use Rattle.hera_syntax.specs.Grammar.{phrase}
use Rattle.hera_syntax.specs.Grammar as phrases
use Rattle.hera_syntax.specs.Outline.{Entry}
use Rattle.hera_parser_exprs.specs.Reading.{Runs, accept, stuck}

-- a program is read from all the tokens, which gives this outline
abbrev pub ReadsProgram : List Token → List Entry → Type 0
ReadsProgram tokens marks = Runs (phrase phrases.program ∷ []) tokens marks accept

-- the reading of a program is stuck before the token of this number
pub record StopsBefore (tokens : List Token) (place : ℕ) : Type 0 where
  pub marks : List Entry
  pub rest : List Token
  pub here : place + length rest ≡ length tokens
  pub stuck_here : Runs (phrase phrases.program ∷ []) tokens marks (stuck rest)
