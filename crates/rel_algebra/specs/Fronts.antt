-- Rows that begin with given bytes.
use Rattle.std.specs.Prelude.{ℕ, Bool, cond, List, filter, length, map, take, drop, Option, None, Some}
use Rattle.hera_sets.specs.Rows.{Row, is_same}

-- the row begins with these bytes
abbrev pub begins : List ℕ → Row → Bool
begins front row = is_same (take (length front) row) front

-- the rows that begin with these bytes
abbrev pub begun_of : List ℕ → List Row → List Row
begun_of front rows = filter (begins front) rows

-- the row, where it begins with these bytes
abbrev pub begun_in : List ℕ → Option Row → Option Row
begun_in front None = None
begun_in front (Some r) = cond (begins front r) (Some r) None

-- the rows without their first bytes
abbrev pub rows_behind : ℕ → List Row → List Row
rows_behind skip rows = map (drop skip) rows
