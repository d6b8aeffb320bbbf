-- Aggregates and groups of lists of rows.
use Rattle.std.specs.Prelude.{ℕ, ◌^◌, Bool, true, cond, List, [], ◌∷◌, ◌++◌, ℤ, pos, ◌+ℤ◌, map, filter, length, nat_lt}
use Rattle.std.specs.List.{list_all, flat_map}
use Rattle.hera_sets.specs.Rows.{Row, is_same, normal}
use Rattle.hera_meaning.specs.declared.scalars.Scalar.{Scalar}
use Rattle.hera_meaning.specs.declared.scalars.Scalar.TheVariants.{Int as int_scalar}
use Rattle.hera_meaning.specs.declared.schemas.Attr.{Attr}
use Rattle.hera_meaning.specs.declared.schemas.Agg.{Agg}
use Rattle.hera_meaning.specs.declared.schemas.Agg.TheVariants.{Count, Sum, Min, Max}
use Rattle.hera_meaning.specs.Scalars.{fits_int, scalar_less}
use Rattle.hera_meaning.specs.Rows.{field_at, field_bytes}
use Rattle.hera_meaning.specs.Relations.{at_places, project_of}

-- at most 2 ^ 63 - 1 rows
abbrev pub is_few : List Row → Bool
is_few rows = nat_lt (length rows) (2 ^ 63)

-- an int's number; 0 for other scalars
abbrev pub int_of : Scalar → ℤ
int_of (int_scalar v) = v
int_of _ = pos 0

-- the exact sum of the fields at a place
abbrev pub sum_of : List Attr → ℕ → List Row → ℤ
sum_of schema i [] = pos 0
sum_of schema i (x ∷ rows) = int_of (field_at schema x i) +ℤ sum_of schema i rows

-- the fields at a place
abbrev pub column : List Attr → ℕ → List Row → List Scalar
column schema i rows = map (λ x. field_at schema x i) rows

-- the least of a scalar and more
abbrev pub least_from : Scalar → List Scalar → Scalar
least_from s [] = s
least_from s (t ∷ rest) = least_from (cond (scalar_less t s) t s) rest

-- the greatest of a scalar and more
abbrev pub greatest_from : Scalar → List Scalar → Scalar
greatest_from s [] = s
greatest_from s (t ∷ rest) = greatest_from (cond (scalar_less s t) t s) rest

-- the least; there is one, and of none this is the int 0
abbrev pub least_scalar : List Scalar → Scalar
least_scalar [] = int_scalar (pos 0)
least_scalar (s ∷ rest) = least_from s rest

-- the greatest; there is one, and of none this is the int 0
abbrev pub greatest_scalar : List Scalar → Scalar
greatest_scalar [] = int_scalar (pos 0)
greatest_scalar (s ∷ rest) = greatest_from s rest

-- what an aggregate gives of the rows of one key
abbrev pub agg_of : List Attr → List Row → Agg → Scalar
agg_of schema rows Count = int_scalar (pos (length rows))
agg_of schema rows (Sum i) = int_scalar (sum_of schema i rows)
agg_of schema rows (Min i) = least_scalar (column schema i rows)
agg_of schema rows (Max i) = greatest_scalar (column schema i rows)

-- the rows that have this key
abbrev pub rows_of_key : List Attr → List ℕ → Row → List Row → List Row
rows_of_key schema by key rows = filter (λ x. is_same (at_places schema by x) key) rows

-- one row for a key: the key, then the aggregates in their order
abbrev pub group_row : List Attr → List ℕ → List Agg → List Row → Row → Row
group_row schema by aggs rows key = key ++ flat_map (λ g. field_bytes (agg_of schema (rows_of_key schema by key rows) g)) aggs

-- one row for each key
abbrev pub group_of : List Attr → List ℕ → List Agg → List Row → List Row
group_of schema by aggs rows = normal (map (group_row schema by aggs rows) (project_of schema by rows))

-- an aggregate that is a sum is in range
abbrev pub is_agg_in_range : List Attr → List Row → Agg → Bool
is_agg_in_range schema rows (Sum i) = fits_int (sum_of schema i rows)
is_agg_in_range schema rows _ = true

-- each sum of each key's rows is in range
abbrev pub are_sums_in_range : List Attr → List ℕ → List Agg → List Row → Bool
are_sums_in_range schema by aggs rows =
    list_all (λ key. list_all (is_agg_in_range schema (rows_of_key schema by key rows)) aggs) (project_of schema by rows)
