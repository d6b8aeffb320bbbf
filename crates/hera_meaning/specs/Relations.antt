-- Project and join, over lists of rows. Union, minus and inter are those of sets of rows.
use Rattle.std.specs.Prelude.{ℕ, zero, suc, ◌+◌, Bool, cond, not, ◌&&◌, ◌||◌, List, [], ◌∷◌, ◌++◌, map, filter, length, nat_lt}
use Rattle.std.specs.List.{list_any, list_all, flat_map}
use Rattle.hera_sets.specs.Rows.{Row, is_same, normal}
use Rattle.hera_meaning.specs.declared.schemas.Attr.{Attr}
use Rattle.hera_meaning.specs.declared.schemas.TheConstants.{ATTRS_LIMIT}
use Rattle.hera_meaning.specs.Scalars.{is_same_kind}
use Rattle.hera_meaning.specs.Rows.{pieces}

-- the bytes of the field at a place, none past the last
abbrev pub piece_at : List (List ℕ) → ℕ → List ℕ
piece_at [] i = []
piece_at (p ∷ rest) zero = p
piece_at (p ∷ rest) (suc i) = piece_at rest i

-- the row of the fields at these places
abbrev pub at_places : List Attr → List ℕ → Row → Row
at_places schema places row = flat_map (λ i. piece_at (pieces schema row) i) places

abbrev pub project_of : List Attr → List ℕ → List Row → List Row
project_of schema places rows = normal (map (at_places schema places) rows)

-- whether an attribute has this name
abbrev pub has_name : List Attr → List ℕ → Bool
has_name attrs name = list_any (λ a. is_same name a.name) attrs

-- the bytes of the field of this name
abbrev pub piece_named : List ℕ → List Attr → List (List ℕ) → List ℕ
piece_named name (a ∷ attrs) (p ∷ rest) = cond (is_same name a.name) p (piece_named name attrs rest)
piece_named _ _ _ = []

-- the attributes of the right schema that the left has too
abbrev pub common : List Attr → List Attr → List Attr
common left right = filter (λ a. has_name left a.name) right

-- the attributes of the right schema that the left lacks
abbrev pub lacking : List Attr → List Attr → List Attr
lacking left right = filter (λ a. not (has_name left a.name)) right

-- common attributes have one kind, and the joined schema has at most 16 attributes
abbrev pub can_join : List Attr → List Attr → Bool
can_join left right =
    list_all (λ a. list_all (λ b. not (is_same a.name b.name) || is_same_kind a.kind b.kind) right) left
    && nat_lt (length left + length (lacking left right)) (suc ATTRS_LIMIT)

abbrev pub pairs : List Row → List Row → List (Row × Row)
pairs xs ys = flat_map (λ x. map (λ y. (x, y)) ys) xs

-- the two rows are equal on the common attributes
abbrev pub agree : List Attr → List Attr → Row × Row → Bool
agree left right p =
    list_all (λ a. is_same (piece_named a.name left (pieces left p.0)) (piece_named a.name right (pieces right p.1))) (common left right)

-- the left row, then the right row's fields that the left lacks
abbrev pub joined : List Attr → List Attr → Row × Row → Row
joined left right p = p.0 ++ flat_map (λ a. piece_named a.name right (pieces right p.1)) (lacking left right)

-- all pairs of rows that agree on the common attributes, each as one row
abbrev pub join_of : List Attr → List Attr → List Row → List Row → List Row
join_of left right xs ys = normal (map (joined left right) (filter (agree left right) (pairs xs ys)))
