use Rattle.std.proofs.Common.{◌∙◌, ap}
use Rattle.hera_meaning.specs.Scalars.{is_scalar}
use Rattle.hera_meaning.specs.Rows.{is_row}
use Rattle.hera_meaning.proofs.RowsRead.{is_row-true}
use Rattle.hera_prims.proofs.Fitted.{field_passes}
use Rattle.hera_prims.proofs.rows.field_of.Goals as goal

pub field-scalar-requires-clause-row : goal.field-scalar-requires-clause-row
field-scalar-requires-clause-row c = is_row-true c.args.schema.now c.row_at.result.now (ap (is_row c.args.schema.now) c.row_at.ensures ∙ c.requires.row)

pub owned-requires : goal.owned-requires
owned-requires c = ap is_scalar c.field-scalar.ensures ∙ field_passes c.args.schema.now c.row_at.result.now c.args.i (ap (is_row c.args.schema.now) c.row_at.ensures ∙ c.requires.row)
