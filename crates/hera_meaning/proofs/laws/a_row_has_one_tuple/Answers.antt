use Rattle.hera_meaning.proofs.RowOrder.{row_injective}
use Rattle.hera_meaning.proofs.laws.a_row_has_one_tuple.Goals as goal

pub returns : goal.returns
returns c = row_injective
