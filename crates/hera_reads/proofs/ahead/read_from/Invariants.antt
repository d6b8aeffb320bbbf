use Rattle.std.proofs.Common.{◌≤◌, length, take}
use Rattle.hera_reads.proofs.Reading.{IsRead}
use Rattle.hera_reads.proofs.ahead.read_from.Given as goal

-- the rows that were read, up to the last one
abbrev pub invariant-loop : goal.invariant-loop
invariant-loop l = record {
  read : IsRead l.rows l.first (take l.count l.ahead.items) l.last;
  there : l.count ≤ length l.ahead.items;
}
