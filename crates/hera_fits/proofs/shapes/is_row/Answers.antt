use Rattle.hera_fits.proofs.Tested.{row_tested}
use Rattle.hera_fits.proofs.shapes.is_row.Goals as goal

pub returns : goal.returns
returns c = row_tested c.check_row.result c.args.schema.now c.args.bytes.now c.check_row.ensures
