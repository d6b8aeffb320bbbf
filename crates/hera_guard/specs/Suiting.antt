-- Guards by the schema of one relation.
use Rattle.std.specs.Prelude.{◌≡◌, ℕ, List, All}
use Rattle.hera_meaning.specs.declared.schemas.Attr.{Attr}
use Rattle.hera_host.specs.Tables.{Host}
use Rattle.hera_guard.specs.declared.table.Guard.{Guard}
use Rattle.hera_guard.specs.Guards.{Suits}

-- if it is a guard of relation r, it suits its schema
abbrev pub SuitsIn : List Attr → ℕ → List Host → Guard → Type 0
SuitsIn schema r hosts g = g.rel.0 ≡ r → Suits schema hosts g

-- each guard of relation r suits its schema
abbrev pub SuitRelation : List Attr → ℕ → List Host → List Guard → Type 0
SuitRelation schema r hosts guards = All (SuitsIn schema r hosts) guards
