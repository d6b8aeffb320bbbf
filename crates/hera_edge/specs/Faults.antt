-- How often calls on the outside failed.
use Rattle.std.specs.Prelude.{ℕ}

-- calls on files, and writes to the output
pub record Faults : Type 0 where
  pub device : ℕ
  pub output : ℕ
