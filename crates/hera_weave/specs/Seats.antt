-- What contracts see of a session at work.
use Rattle.std.specs.Prelude.{ℕ, List, Option}
use Rattle.hera_meaning.specs.Deltas.{Delta}
use Rattle.hera_code.specs.declared.instrs.Code.{Code}
use Rattle.hera_machine.specs.Standing.{Standing}

-- its code and machine; behind how many commits it began, once it made a step; its own commits; once there is one,
-- deltas that do what the commits before its beginning and then its own do; and its text so far
pub record Sitting : Type 0 where
  pub code : Code
  pub machine : Standing
  pub begun : Option ℕ
  pub own : List Delta
  pub levels : List Delta
  pub text : List ℕ
