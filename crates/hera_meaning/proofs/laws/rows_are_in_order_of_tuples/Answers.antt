use Rattle.hera_meaning.proofs.RowOrder.{row_order}
use Rattle.hera_meaning.proofs.laws.rows_are_in_order_of_tuples.Goals as goal

pub returns : goal.returns
returns c = row_order
