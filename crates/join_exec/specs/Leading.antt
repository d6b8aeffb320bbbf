-- Where common attributes stand, and the fields of a left row that a right row which agrees with it begins with.
use Rattle.std.specs.Prelude.{◌≡◌, ℕ, cond, List, [], ◌∷◌, ◌++◌, Option, map}
use Rattle.std.specs.List.{flat_map}
use Rattle.hera_sets.specs.Rows.{Row}
use Rattle.hera_meaning.specs.declared.schemas.Attr.{Attr}
use Rattle.hera_meaning.specs.Schemas.{AreDistinct, names_of, place_named}
use Rattle.hera_meaning.specs.Rows.{pieces}
use Rattle.hera_meaning.specs.Relations.{has_name, piece_named, common}

-- for each attribute of the right schema its place in the left, if it has one
abbrev pub places_in : List Attr → List Attr → List (Option ℕ)
places_in left right = map (λ a. place_named a.name left) right

-- these are those places, and no name stands twice in the right schema
pub record ArePlaces (left right : List Attr) (places : List (Option ℕ)) : Type 0 where
  pub each : places ≡ places_in left right
  pub distinct : AreDistinct (names_of right)

-- the fields of the row at the leading attributes, up to the first that the left schema lacks
abbrev pub leading_of : List Attr → Row → List Attr → Row
leading_of left row [] = []
leading_of left row (a ∷ attrs) = cond (has_name left a.name) (piece_named a.name left (pieces left row) ++ leading_of left row attrs) []

-- the fields of a row of the schema at the attributes that both the left and the right have
abbrev pub shared_of : List Attr → List Attr → List Attr → Row → Row
shared_of left right schema row = flat_map (λ a. piece_named a.name schema (pieces schema row)) (common left right)

-- a right row behind those fields of it
abbrev pub keyed_of : List Attr → List Attr → Row → Row
keyed_of left right row = shared_of left right right row ++ row
