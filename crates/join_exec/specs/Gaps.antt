-- A gap between rows that stand one behind the other.
use Rattle.std.specs.Prelude.{◌≡◌, Bool, true, ◌&&◌, List, Option, None, Some}
use Rattle.std.specs.List.{find}
use Rattle.std.specs.Option.{option_copied}
use Rattle.hera_sets.specs.Rows.{Row, is_below, is_past, IsAscending}
use Rattle.hera_rows.specs.Froms.{is_from}
use Rattle.join_exec.specs.declared.beside.Gap.{Gap}

-- the row ahead is the first of all past these bytes
pub record IsGap (rows : List Row) (gap : Gap) : Type 0 where
  pub ordered : IsAscending rows
  pub first : option_copied gap.ahead ≡ find (is_past (Some gap.past.now)) rows

-- there is no row, or it does not stand before the front
abbrev pub is_none_before : Row → Option Row → Bool
is_none_before front None = true
is_none_before front (Some r) = is_from front r

-- the front stands in the gap
abbrev pub is_over : Gap → Row → Bool
is_over gap front = is_below gap.past.now front && is_none_before front (option_copied gap.ahead)

-- the last row, and the front where there is none
abbrev pub last_or : Row → Option Row → Row
last_or front None = front
last_or front (Some r) = r
