-- What it means that tokens begin a phrase, one production at a time.
use Rattle.std.specs.Prelude.{◌≡◌, ◌<◌, ◌⊎◌, ℕ, List, [], ◌∷◌, ◌++◌, length}
use Rattle.hera_syntax.specs.declared.token.Token.{Token}
use Rattle.hera_syntax.specs.Grammar.{Production, Part, phrase, alternatives, alternative}
use Rattle.hera_syntax.specs.Outline.{Entry}
use Rattle.hera_syntax.specs.Trees.{Obeys, Agree, printed, Begins}

-- the tokens are those of a whole phrase of each of these parts, one after the other
pub record ArePhrases (ps : List Part) (ts : List Token) : Type 0 where
  pub marks : List Entry
  pub obeys : Obeys ps marks
  pub agrees : Agree (printed marks) ts

-- the tokens are those of whole phrases of the first of these parts, followed by a list that begins the next part
pub record BeginsNext (ps : List Part) (ts : List Token) : Type 0 where
  pub first : List Part
  pub part : Part
  pub more : List Part
  pub is : ps ≡ first ++ part ∷ more
  pub front : List Token
  pub rest : List Token
  pub cut : ts ≡ front ++ rest
  pub phrases : ArePhrases first front
  pub begins : Begins (part ∷ []) rest

-- the tokens are empty; or a whole phrase; or, with an alternative chosen, whole phrases of its first parts and a beginning of the next
abbrev pub BeginsByCases : Production → List Token → Type 0
BeginsByCases s ts = (ts ≡ []) ⊎ ArePhrases (phrase s ∷ []) ts ⊎ ((k : ℕ) × (k < length (alternatives s)) × BeginsNext (alternative s k) ts)
