-- What contracts see of a record that is ready to be sealed.
use Rattle.std.specs.Prelude.{ℕ, List}

-- its bytes before the next gate, and the place of its gate
pub record Record : Type 0 where
  pub body : List ℕ
  pub end : ℕ
