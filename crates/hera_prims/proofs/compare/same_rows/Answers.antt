use Rattle.hera_prims.proofs.Equals.{rows_tested}
use Rattle.hera_prims.proofs.compare.same_rows.Goals as goal

pub returns : goal.returns
returns c = rows_tested c.equal.result c.args.a.now c.args.b.now c.equal.ensures
