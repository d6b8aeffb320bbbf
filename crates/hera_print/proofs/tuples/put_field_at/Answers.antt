use Rattle.hera_meaning.proofs.RowsRead.{is_row-true}
use Rattle.hera_print.proofs.tuples.put_field_at.Goals as goal

pub field-requires-clause-row : goal.field-requires-clause-row
field-requires-clause-row c = is_row-true c.args.schema.now c.args.row.now c.requires.row
