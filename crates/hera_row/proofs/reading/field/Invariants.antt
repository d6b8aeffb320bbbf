use Rattle.hera_row.proofs.RowLemmas.{IsAt}
use Rattle.hera_row.proofs.reading.field.Given as goal

abbrev pub invariant-loop-place : goal.invariant-loop-place
invariant-loop-place l = IsAt l.schema l.row l.i l.place l.rest
