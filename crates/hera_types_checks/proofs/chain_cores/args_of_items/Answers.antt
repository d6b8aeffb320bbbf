use Rattle.hera_meaning.specs.Plain.{expr_of}
use Rattle.hera_types_parts.proofs.Snocs.{args_step}
use Rattle.hera_types_checks.proofs.chain_cores.args_of_items.Goals as goal

pub loop-item-preserved : goal.loop-item-preserved
loop-item-preserved c = args_step c.loop-item.all.items c.loop-item.yielded c.in-Some.item (expr_of c.args.first) c.arg_of_item.ensures c.in_ok-put-2.ensures c.loop-item.invariant
