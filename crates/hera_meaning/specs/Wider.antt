-- Catalogues that go on where others end, and states widened to them.
use Rattle.std.specs.Prelude.{◌≡◌, ℕ, Bool, true, false, cond, ◌&&◌, List, [], ◌∷◌, ◌++◌, Option, Some, None, pos, map, drop, length, All}
use Rattle.hera_sets.specs.Rows.{Row, is_same}
use Rattle.hera_meaning.specs.declared.scalars.Kind.{Kind}
use Rattle.hera_meaning.specs.declared.scalars.Kind.TheVariants.{Int as int_kind, Bool as bool_kind, Text as text_kind}
use Rattle.hera_meaning.specs.declared.scalars.Scalar.{Scalar}
use Rattle.hera_meaning.specs.declared.scalars.Scalar.TheVariants.{Int as int_scalar, Bool as bool_scalar, Text as text_scalar}
use Rattle.hera_meaning.specs.declared.schemas.Attr.{Attr}
use Rattle.hera_meaning.specs.declared.schemas.RelDecl.{RelDecl}
use Rattle.hera_meaning.specs.Scalars.{is_same_kind}
use Rattle.hera_meaning.specs.Rows.{row_of}
use Rattle.hera_meaning.specs.Deltas.{State}

-- ---- schemas

abbrev pub same_attr : Attr → Attr → Bool
same_attr a b = is_same a.name b.name && is_same_kind a.kind b.kind

-- the attributes of the first are the first of the second
abbrev pub is_prefix : List Attr → List Attr → Bool
is_prefix [] new = true
is_prefix (a ∷ old) [] = false
is_prefix (a ∷ old) (b ∷ new) = same_attr a b && is_prefix old new

-- ---- rows

-- what an added attribute has: the int 0, false, the empty text
abbrev pub blank : Kind → Scalar
blank int_kind = int_scalar (pos 0)
blank bool_kind = bool_scalar false
blank text_kind = text_scalar []

abbrev pub blanks : List Attr → List Scalar
blanks attrs = map (λ a. blank a.kind) attrs

-- what a widened tuple has more
abbrev pub added : List Attr → List Attr → List Scalar
added old new = blanks (drop (length old) new)

-- the row of the tuple with the added attributes behind it
abbrev pub widened_row : List Attr → List Attr → Row → Row
widened_row old new row = row ++ row_of (added old new)

-- ---- catalogues and states

-- the schema that the relation of this name has
abbrev pub schema_named : List ℕ → List RelDecl → Option (List Attr)
schema_named name [] = None
schema_named name (d ∷ rels) = cond (is_same name d.name) (Some d.schema) (schema_named name rels)

abbrev pub begins_some : List Attr → Option (List Attr) → Bool
begins_some old None = false
begins_some old (Some new) = is_prefix old new

-- there is a relation of this name, and its schema begins with this one
abbrev pub keeps : List RelDecl → RelDecl → Bool
keeps new d = begins_some d.schema (schema_named d.name new)

-- each relation of the old catalogue is in the new one by name, and its old schema is a prefix of its new one
abbrev pub Wider : List RelDecl → List RelDecl → Type 0
Wider old new = All (λ d. keeps new d ≡ true) old

-- the name of the first relation of the old catalogue for which this is not so
abbrev pub first_narrowed : List RelDecl → List RelDecl → Option (List ℕ)
first_narrowed [] new = None
first_narrowed (d ∷ old) new = cond (keeps new d) (first_narrowed old new) (Some d.name)

-- the rows that a state has under this name, widened to the schema; none where it has no such relation
abbrev pub widened_rows : List ℕ → List Attr → List RelDecl → State → List Row
widened_rows name schema (d ∷ old) (rows ∷ s) = cond (is_same name d.name) (map (widened_row d.schema schema) rows) (widened_rows name schema old s)
widened_rows name schema _ _ = []

-- for each relation of the new catalogue the rows of the old state
abbrev pub widen_of : List RelDecl → State → List RelDecl → State
widen_of old s new = map (λ d. widened_rows d.name d.schema old s) new
