-- Instructions that are kept by the numbers of their kinds.
use Rattle.std.specs.Prelude.{◌≡◌, ◌<◌, ℕ, List, ◌++◌, All, get_or, length, map}
use Rattle.hera_code.specs.declared.instrs.Instr.{Instr}
use Rattle.hera_code.specs.declared.instrs.Instr.TheVariants.{Halt}

-- the kinds of these numbers
abbrev pub numbered : List Instr → List ℕ → List Instr
numbered kinds numbers = map (λ k. get_or kinds k Halt) numbers

-- each number is that of a kind
abbrev pub AreKinds : List Instr → List ℕ → Type 0
AreKinds kinds numbers = All (λ k. k < length kinds) numbers

-- the former ones come first
pub record HasMore (before after : List Instr) : Type 0 where
  pub more : List Instr
  pub is : after ≡ before ++ more
