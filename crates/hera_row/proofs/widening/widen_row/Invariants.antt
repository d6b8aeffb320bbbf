use Rattle.std.proofs.Common.{◌≡◌, ◌++◌, drop}
use Rattle.hera_meaning.specs.Rows.{row_of}
use Rattle.hera_meaning.specs.Wider.{blanks, widened_row}
use Rattle.hera_row.proofs.widening.widen_row.Given as goal

-- the row so far and the blanks of the attributes that are left
abbrev pub invariant-loop-place : goal.invariant-loop-place
invariant-loop-place l = l.bytes.items ++ row_of (blanks (drop l.place l.new)) ≡ widened_row l.old l.new l.row
