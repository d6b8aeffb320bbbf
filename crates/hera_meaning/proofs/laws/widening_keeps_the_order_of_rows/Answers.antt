use Rattle.hera_meaning.proofs.WiderLaws.{wide_below, wide_ascending}
use Rattle.hera_meaning.proofs.laws.widening_keeps_the_order_of_rows.Goals as goal

pub returns-clause-two : goal.returns-clause-two
returns-clause-two c = wide_below

pub returns-clause-all : goal.returns-clause-all
returns-clause-all c = wide_ascending
