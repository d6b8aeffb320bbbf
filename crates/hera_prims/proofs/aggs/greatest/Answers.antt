use Rattle.hera_prims.proofs.Computed.{all_rows}
use Rattle.hera_prims.proofs.aggs.greatest.Goals as goal

pub greatest-requires-clause-rows : goal.greatest-requires-clause-rows
greatest-requires-clause-rows g c = all_rows c.args.schema.now (g.A.Sorted.rows c.args.a.now) c.requires.rows
