use Rattle.std.proofs.Common.{rules}
use Rattle.hera_row.proofs.RowLemmas.{row_len_some, row_len_nothing}
use Rattle.hera_row.proofs.reading.row_len.Goals as goal

pub returns-clause-row : goal.returns-clause-row
returns-clause-row c = row_len_some c.args.schema.now c.args.bytes.now c.measured.result (λ i. search rules) c.measured.ensures

pub returns-clause-none : goal.returns-clause-none
returns-clause-none c = row_len_nothing c.args.schema.now c.args.bytes.now c.measured.result c.measured.ensures
