use Rattle.hera_weave.proofs.Turning.{due_ordered}
use Rattle.hera_weave.proofs.rota.what_is_due_is_in_order.Goals as goal

pub returns : goal.returns
returns c = due_ordered
