use Rattle.std.proofs.Common.{◌≡◌, length}
use Rattle.std.specs.List.{list_all, filter}
use Rattle.std.specs.Option.{option_copied}
use Rattle.hera_sets.specs.Rows.{is_past}
use Rattle.hera_meaning.specs.Rows.{is_row}
use Rattle.hera_fits.proofs.shapes.has_kinds.Given as goal

-- all rows pass where those past the last one do
abbrev pub invariant-loop-row : goal.invariant-loop-row
invariant-loop-row g l = list_all (is_row l.schema) (filter (is_past (option_copied l.last)) (g.A.Sorted.rows l.a)) ≡ list_all (is_row l.schema) (g.A.Sorted.rows l.a)

abbrev pub decreases-loop-row : goal.decreases-loop-row
decreases-loop-row g l = length (filter (is_past (option_copied l.last)) (g.A.Sorted.rows l.a))
