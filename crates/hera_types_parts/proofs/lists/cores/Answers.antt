use Rattle.hera_types_parts.proofs.Snocs.{cores_step}
use Rattle.hera_types_parts.proofs.lists.cores.Goals as goal

pub loop-value-preserved : goal.loop-value-preserved
loop-value-preserved c = cores_step c.loop-value.all.items c.loop-value.yielded c.in-Some.value c.into_core-core.ensures c.in_ok-put.ensures c.loop-value.invariant
