use Rattle.std.proofs.Common.{Some}
use Rattle.csv.specs.Reading.{strip_bom}
use Rattle.hera_csv.specs.Records.{is_good, rows_behind}
use Rattle.hera_csv.proofs.Goings.{Going}
use Rattle.hera_csv.proofs.reading.read_list.Given as goal

abbrev pub invariant-loop-number : goal.invariant-loop-number
invariant-loop-number l = Going (λ s. Some s.now) (strip_bom l.bytes) (is_good l.schema) (rows_behind l.schema) l.number l.rows l.reader
