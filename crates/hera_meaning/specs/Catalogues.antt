-- What a catalogue is.
use Rattle.std.specs.Prelude.{◌≤◌, ℕ, List, map, length, All}
use Rattle.hera_meaning.specs.declared.schemas.RelDecl.{RelDecl}
use Rattle.hera_meaning.specs.declared.schemas.TheConstants.{RELATIONS_LIMIT}
use Rattle.hera_meaning.specs.Identifiers.{IsIdentifier}
use Rattle.hera_meaning.specs.Schemas.{AreDistinct, IsSchema, names_of}

abbrev pub decl_name : RelDecl → List ℕ
decl_name d = d.name

-- a name and a schema, whose names have an identifier's shape
pub record IsDecl (d : RelDecl) : Type 0 where
  pub name : IsIdentifier d.name
  pub schema : IsSchema d.schema
  pub attrs : All IsIdentifier (names_of d.schema)

-- at most 256 declarations with distinct names; a relation's number is its place
pub record IsCatalogue (rels : List RelDecl) : Type 0 where
  pub few : length rels ≤ RELATIONS_LIMIT
  pub distinct : AreDistinct (map decl_name rels)
  pub decls : All IsDecl rels
