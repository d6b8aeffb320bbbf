use Rattle.std.proofs.Common.{◌≤◌, length, take}
use Rattle.std.specs.Prelude.{slice_get}
use Rattle.hera_reads.proofs.Reading.{IsRunTo}
use Rattle.hera_reads.proofs.ahead.read_run.Given as goal

-- the rows that were read, up to the last one
abbrev pub invariant-loop-i : goal.invariant-loop-i
invariant-loop-i l = record {
  read : IsRunTo l.rows (slice_get l.rows l.from) (take l.count l.ahead.items) l.last l.i;
  there : l.count ≤ length l.ahead.items;
}
