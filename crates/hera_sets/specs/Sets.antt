-- Union, difference and intersection of lists of rows, as ascending lists.
use Rattle.std.specs.Prelude.{Bool, cond, not, List, ◌++◌, filter, Option, Some, None}
use Rattle.hera_sets.specs.Rows.{Row, is_below, holds, normal}

abbrev pub union_of : List Row → List Row → List Row
union_of a b = normal (a ++ b)

-- the row is none of the list
abbrev pub is_apart : List Row → Row → Bool
is_apart b r = not (holds b r)

abbrev pub minus_of : List Row → List Row → List Row
minus_of a b = normal (filter (is_apart b) a)

abbrev pub inter_of : List Row → List Row → List Row
inter_of a b = normal (filter (holds b) a)

-- the lesser of two rows
abbrev pub least_of : Option Row → Option Row → Option Row
least_of None y = y
least_of (Some r) None = Some r
least_of (Some r) (Some s) = cond (is_below s r) (Some s) (Some r)
