use Rattle.std.proofs.Common.{sym, ap, ◌∙◌, []}
use Rattle.std.proofs.lemmas.List.{append-nil}
use Rattle.hera_meaning.specs.Rows.{row_of, fields_of}
use Rattle.hera_meaning.proofs.RowsRead.{fields_of-row_of}
use Rattle.hera_meaning.proofs.laws.a_row_reads_as_its_tuple.Goals as goal

pub returns : goal.returns
returns c = λ schema tuple h. ap (fields_of schema) (sym (append-nil (row_of tuple))) ∙ fields_of-row_of schema tuple [] h
