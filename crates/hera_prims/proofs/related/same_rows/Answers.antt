use Rattle.hera_prims.proofs.Equals.{rows_tested}
use Rattle.hera_prims.proofs.related.same_rows.Goals as goal

pub returns : goal.returns
returns g c = rows_tested c.same_rows.result (g.A.Sorted.rows c.args.a.now) (g.B.Sorted.rows c.args.b.now) c.same_rows.ensures
