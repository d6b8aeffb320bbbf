-- The parts of a half's bytes that are the pages of its relations.
use Rattle.std.specs.Prelude.{◌≡◌, ◌≤◌, ℕ, ◌+◌, List, [], ◌∷◌, length, take, drop}
use Rattle.hera_meaning.specs.declared.schemas.RelDecl.{RelDecl}
use Rattle.hera_meaning.specs.Catalogues.{IsCatalogue}
use Rattle.hera_meaning.specs.Deltas.{State}
use Rattle.rel_format.specs.Pages.{Format, Fit, pages_of}
use Rattle.rel_pages.specs.declared.parts.RelationPages.{RelationPages}
use Rattle.rel_pages.specs.Rels.{IsPaged, rows_in}

abbrev pub part_bytes : List ℕ → RelationPages → List ℕ
part_bytes bytes p = take p.len (drop p.at bytes)

-- the rows of each relation, read from its part
abbrev pub state_of : ℕ → List RelDecl → List RelationPages → List ℕ → State
state_of page [] parts bytes = []
state_of page (d ∷ rels) [] bytes = []
state_of page (d ∷ rels) (p ∷ parts) bytes = rows_in d.schema page (part_bytes bytes p) ∷ state_of page rels parts bytes

-- each relation has a part, the pages of that relation
abbrev pub AreParts : ℕ → List RelDecl → List RelationPages → List ℕ → Type 0
AreParts page [] [] bytes = Unit {0}
AreParts page (d ∷ rels) (p ∷ parts) bytes = (p.at + p.len ≤ length bytes) × IsPaged d.schema page (part_bytes bytes p) × AreParts page rels parts bytes
AreParts page _ _ bytes = ⊥

-- parts of these lengths, one behind another
abbrev pub parts_from : ℕ → List ℕ → List RelationPages
parts_from at [] = []
parts_from at (n ∷ lens) = record { at = at; len = n } ∷ parts_from (at + n) lens

abbrev pub total : List ℕ → ℕ
total [] = 0
total (n ∷ lens) = n + total lens

-- the bytes begin with the pages of these relations, whose parts these are, and end there at a gate
pub record IsBase (f : Format) (rels : List RelDecl) (parts : List RelationPages) (bytes : List ℕ) (journal : ℕ) : Type 0 where
  pub catalogue : IsCatalogue rels
  pub parts_are : AreParts f.page rels parts bytes
  pub within : journal ≤ length bytes
  pub fit : Fit f.page (state_of f.page rels parts bytes)
  pub printed : take journal bytes ≡ pages_of f rels (state_of f.page rels parts bytes)
