-- Why attributes are no schema.
use Rattle.std.specs.Prelude.{◌≡◌, ◌<◌, ◌≤◌, ℕ, true, List, [], take, Some, length, slice_get}
use Rattle.hera_sets.specs.Rows.{holds}
use Rattle.hera_meaning.specs.declared.schemas.Attr.{Attr}
use Rattle.hera_meaning.specs.declared.schemas.TheConstants.{ATTRS_LIMIT}
use Rattle.hera_meaning.specs.declared.schemas.SchemaFault.{SchemaFault}
use Rattle.hera_meaning.specs.declared.schemas.SchemaFault.TheVariants.{Empty, TooMany, Repeated}
use Rattle.hera_meaning.specs.Schemas.{AreDistinct, names_of}

-- the name at this place stands before it, and no name before it stands twice
pub record IsFirstRepeat (names : List (List ℕ)) (second : ℕ) : Type 0 where
  pub name : List ℕ
  pub here : slice_get names second ≡ Some name
  pub before : holds (take second names) name ≡ true
  pub distinct : AreDistinct (take second names)

-- the first rule that the attributes break
abbrev pub IsSchemaFault : List Attr → SchemaFault → Type 0
IsSchemaFault attrs Empty = attrs ≡ []
IsSchemaFault attrs TooMany = ATTRS_LIMIT < length attrs
IsSchemaFault attrs (Repeated second) = (1 ≤ length attrs) × (length attrs ≤ ATTRS_LIMIT) × IsFirstRepeat (names_of attrs) second
