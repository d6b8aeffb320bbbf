use Rattle.hera_verify.specs.Tables.{AreStarts}
use Rattle.hera_verify.proofs.flow.starts.Given as goal

abbrev pub invariant-loop-k : goal.invariant-loop-k
invariant-loop-k l = AreStarts l.count l.bodies l.k l.spots.items
