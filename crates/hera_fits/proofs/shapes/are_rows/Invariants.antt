use Rattle.std.proofs.Common.{◌≡◌, drop}
use Rattle.std.specs.List.{list_all}
use Rattle.hera_meaning.specs.Rows.{is_row}
use Rattle.hera_fits.proofs.shapes.are_rows.Given as goal

abbrev pub invariant-loop-i : goal.invariant-loop-i
invariant-loop-i l = list_all (is_row l.schema) (drop l.i l.rows) ≡ list_all (is_row l.schema) l.rows
