-- What the answer of the verifier says.
use Rattle.std.specs.Prelude.{◌<◌, ℕ, List, Option, None, Some}
use Rattle.hera_meaning.specs.declared.schemas.RelDecl.{RelDecl}
use Rattle.hera_meaning.specs.Hosts.{Hosts}
use Rattle.hera_code.specs.declared.instrs.Code.{Code}
use Rattle.hera_typed.specs.Effects.{Body_note}
use Rattle.hera_typed.specs.Typed.{Points, IsTypedTo, IsTyped}

module _ (code : Code) (rels : List RelDecl) (hosts : Hosts) (notes : List Body_note) where
  -- with these notes it is typed code
  abbrev pub IsVerified : Type 0
  IsVerified = (P : Points) × IsTyped code rels hosts notes P

  -- the least address up to which nothing meets the rules that speak of addresses up to it
  pub record IsRejectedAt (at : ℕ) : Type 0 where
    pub breaks : (P : Points) → IsTypedTo code rels hosts notes P at → ⊥
    pub met : (n : ℕ) → n < at → (P : Points) × IsTypedTo code rels hosts notes P n

  -- an answer: typed code, or the address at which it is rejected
  abbrev pub Answers : Option ℕ → Type 0
  Answers None = IsVerified
  Answers (Some at) = IsRejectedAt at
