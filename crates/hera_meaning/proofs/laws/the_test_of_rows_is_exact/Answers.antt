use Rattle.hera_meaning.proofs.RowsRead.{is_row-true, is_row-from_IsRow}
use Rattle.hera_meaning.proofs.laws.the_test_of_rows_is_exact.Goals as goal

pub returns : goal.returns
returns c = λ schema bytes. (is_row-true schema bytes, is_row-from_IsRow schema bytes)
