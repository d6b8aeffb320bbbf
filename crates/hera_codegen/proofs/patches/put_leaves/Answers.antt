use Rattle.hera_codegen.proofs.Emitted.{leaves_one}
use Rattle.hera_codegen.proofs.patches.put_leaves.Goals as goal

pub loop-i-preserved : goal.loop-i-preserved
loop-i-preserved c = leaves_one _ _ _ _ _ c.loop-i-test.true c.in_ok-put.ensures c.loop-i.invariant
