-- What an answer of the code says of a row or of a phrase.
use Rattle.std.specs.Prelude.{◌≡◌, ◌≢◌, ◌+◌, ℕ, List, map, Result, Ok, Err}
use Rattle.hera_meaning.specs.Plain.{expr_of}
use Rattle.hera_rules.specs.declared.env.Item.{Item}
use Rattle.hera_rules.specs.declared.env.LocalScope.{LocalScope}
use Rattle.hera_rules.specs.declared.env.Typed.{Typed}
use Rattle.hera_rules.specs.declared.fault.TypeFault.{TypeFault}
use Rattle.hera_rules.specs.declared.fault.TypeFault.TheVariants.{Memory as memory}
use Rattle.hera_rules.specs.Rules.{Typing, typing, Step}

abbrev pub typing_of : Typed → Typing
typing_of v = typing v.shape (expr_of v.core)

abbrev pub typings_of : List Typed → List Typing
typings_of vs = map typing_of vs

abbrev pub step_of : Item → Step
step_of i = record { joint = i.joint; at = i.at; arg = expr_of i.arg }

abbrev pub steps_of : List Item → List Step
steps_of is = map step_of is

-- the definition gives what the code answers, or breaks as it answers; want of memory says nothing
abbrev pub Gives : {A B : Type 0} → (A → B) → Result A TypeFault → Result B TypeFault → Type 0
Gives as_b (Ok v) r = r ≡ Ok (as_b v)
Gives as_b (Err f) r = f ≢ memory → r ≡ Err f

-- the same locals, and so many slots more
pub record Keeps (old new : LocalScope) (k : ℕ) : Type 0 where
  pub locals : new.locals.items ≡ old.locals.items
  pub next : new.next ≡ old.next + k
