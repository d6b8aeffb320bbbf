use Rattle.std.proofs.Common.{◌≡◌, ◌-◌, ◌≤◌, length, drop}
use Rattle.hera_row.specs.Reading.{row_len_of}
use Rattle.hera_row.proofs.RowLemmas.{length_from}
use Rattle.rel_pages.proofs.leading.leading_len.Given as goal

-- the length so far, and that of what is left
abbrev pub invariant-loop-place : goal.invariant-loop-place
invariant-loop-place l = record {
  rest : length_from (length l.bytes - length l.rest) (drop l.place l.schema) l.rest ≡ row_len_of l.schema l.bytes;
  within : length l.rest ≤ length l.bytes;
}
