-- Rows in one buffer, each by where it starts and ends.
use Rattle.std.specs.Prelude.{◌≤◌, ◌-◌, ℕ, List, map, take, drop}
use Rattle.hera_sets.specs.Rows.{Row}
use Rattle.hera_csv.specs.declared.row_list.Span.{Span}

-- the bytes of a span
abbrev pub cut : List ℕ → Span → Row
cut bytes s = take (s.end - s.start) (drop s.start bytes)

abbrev pub rows_at : List ℕ → List Span → List Row
rows_at bytes spans = map (cut bytes) spans

-- the span lies within n bytes
pub record IsWithin (n : ℕ) (s : Span) : Type 0 where
  pub ordered : s.start ≤ s.end
  pub inside : s.end ≤ n
