use Rattle.hera_prims.proofs.Equals.{deltas_tested}
use Rattle.hera_prims.proofs.compare.same_delta.Goals as goal

pub returns : goal.returns
returns c = deltas_tested c.equal.result c.args.a.now c.args.b.now c.equal.ensures
