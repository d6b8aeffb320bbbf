use Rattle.hera_prims.proofs.Computed.{all_rows}
use Rattle.hera_prims.proofs.aggs.sum.Goals as goal

pub sum-requires-clause-rows : goal.sum-requires-clause-rows
sum-requires-clause-rows g c = all_rows c.args.schema.now (g.A.Sorted.rows c.args.a.now) c.requires.rows
