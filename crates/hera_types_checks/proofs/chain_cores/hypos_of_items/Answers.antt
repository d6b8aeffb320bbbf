use Rattle.hera_types_parts.proofs.Snocs.{hypos_step}
use Rattle.hera_types_checks.proofs.chain_cores.hypos_of_items.Goals as goal

pub loop-item-preserved : goal.loop-item-preserved
loop-item-preserved c = hypos_step c.loop-item.all.items c.loop-item.yielded c.in-Some.item c.hypo_of_item.ensures c.in_ok-put.ensures c.loop-item.invariant
