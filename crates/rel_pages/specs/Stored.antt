-- What contracts see of a base.
use Rattle.std.specs.Prelude.{ℕ, List, [], map}
use Rattle.hera_meaning.specs.declared.schemas.RelDecl.{RelDecl}
use Rattle.hera_meaning.specs.Deltas.{State}
use Rattle.rel_format.specs.declared.version.Version.{Version}

-- the format of the half, a catalogue, for each of its relations the rows, the bytes of the half, and the place of its first gate
pub record Stored : Type 0 where
  pub version : Version
  pub catalogue : List RelDecl
  pub state : State
  pub bytes : List ℕ
  pub journal : ℕ

-- the state in which no relation of the catalogue has a row
abbrev pub empty_state : List RelDecl → State
empty_state rels = map (λ d. []) rels
