use Rattle.std.proofs.Common.{◌≡◌, ◌+◌, ◌-◌, ◌≤◌, Some, length, drop}
use Rattle.std.specs.Option.{option_and_then}
use Rattle.hera_row.specs.Reading.{row_len_of}
use Rattle.hera_row.proofs.RowLemmas.{IsHeld}
use Rattle.hera_row.proofs.reading.field_of_row.Given as goal

-- the length so far, and that of what is left, and where the field is
abbrev pub invariant-loop-place : goal.invariant-loop-place
invariant-loop-place l = record {
  rest : option_and_then (λ m. Some ((length l.bytes - length l.rest) + m)) (row_len_of (drop l.place l.schema) l.rest) ≡ row_len_of l.schema l.bytes;
  within : length l.rest ≤ length l.bytes;
  held : IsHeld l.schema l.bytes l.i l.place l.at l.rest;
}
