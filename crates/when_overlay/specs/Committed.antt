-- Committed states.
use Rattle.std.specs.Prelude.{List}
use Rattle.hera_meaning.specs.declared.schemas.RelDecl.{RelDecl}
use Rattle.hera_meaning.specs.Deltas.{Delta, State}

-- the relations, the base's state, the commits in order, and the state after them
pub record Committed : Type 0 where
  pub catalogue : List RelDecl
  pub base : State
  pub commits : List Delta
  pub state : State
