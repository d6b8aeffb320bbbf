use Rattle.hera_prims.proofs.Computed.{all_rows}
use Rattle.hera_prims.proofs.aggs.least.Goals as goal

pub least-requires-clause-rows : goal.least-requires-clause-rows
least-requires-clause-rows g c = all_rows c.args.schema.now (g.A.Sorted.rows c.args.a.now) c.requires.rows
