-- The numbers of relations.
use Rattle.std.specs.Prelude.{ℕ, List, Option}
use Rattle.std.specs.List.{position_from}
use Rattle.hera_sets.specs.Rows.{is_same}
use Rattle.hera_meaning.specs.declared.schemas.RelDecl.{RelDecl}

-- the number of the relation of this name: its place
abbrev pub number_named : List ℕ → List RelDecl → Option ℕ
number_named name rels = position_from (λ d. is_same name d.name) 0 rels
