use Rattle.std.proofs.Common.{◌≡◌, true, take}
use Rattle.std.specs.List.{list_all}
use Rattle.hera_meaning.specs.Rows.{row_of}
use Rattle.hera_meaning.specs.Scalars.{is_scalar}
use Rattle.hera_row.proofs.encoding.encode.Given as goal

-- the fields so far
abbrev pub invariant-loop-field : goal.invariant-loop-field
invariant-loop-field l = record {
  row : l.row.items ≡ row_of (take l.field-index l.fields);
  valid : list_all is_scalar (take l.field-index l.fields) ≡ true;
}
