-- The schemas that an operation names, and lists of rows of which all are of a schema where all of others are.
use Rattle.std.specs.Prelude.{◌≡◌, List, Option, None, Some}
use Rattle.std.specs.List.{list_all}
use Rattle.hera_sets.specs.Rows.{Row}
use Rattle.hera_meaning.specs.declared.schemas.Attr.{Attr}
use Rattle.hera_meaning.specs.declared.trees.Op.{Op}
use Rattle.hera_meaning.specs.declared.trees.Op.TheVariants.{Project, Join, Group, Sum, Min, Max}
use Rattle.hera_meaning.specs.Rows.{is_row}

-- the schema of the first operand's rows
abbrev pub left_of : Op → Option (List Attr)
left_of (Project schema places) = Some schema
left_of (Join left right) = Some left
left_of (Group schema by aggs) = Some schema
left_of (Sum schema i) = Some schema
left_of (Min schema i) = Some schema
left_of (Max schema i) = Some schema
left_of _ = None

-- the schema of the second operand's rows
abbrev pub right_of : Op → Option (List Attr)
right_of (Join left right) = Some right
right_of _ = None

-- where a schema is asked for, both lists are of it or neither is
abbrev pub PassAlike : Option (List Attr) → List Row → List Row → Type 0
PassAlike None xs ys = Unit {0}
PassAlike (Some schema) xs ys = list_all (is_row schema) xs ≡ list_all (is_row schema) ys
