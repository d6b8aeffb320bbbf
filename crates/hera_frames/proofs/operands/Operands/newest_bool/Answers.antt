use Rattle.hera_frames.specs.Items.{item_of}
use Rattle.hera_frames.proofs.Truths.{truth_some, truth_items}
use Rattle.hera_frames.proofs.operands.Operands.newest_bool.Goals as goal

pub returns-in-Some-clause-exact : goal.returns-in-Some-clause-exact
returns-in-Some-clause-exact c = truth_some c.args.self.now.items (item_of c.in-Some.operand.now) c.bool_of.result c.in-Some.ensures c.bool_of.ensures

pub returns-in-Some-clause-items : goal.returns-in-Some-clause-items
returns-in-Some-clause-items c =
    truth_items c.args.self.now.items c.bool_of.result (truth_some c.args.self.now.items (item_of c.in-Some.operand.now) c.bool_of.result c.in-Some.ensures c.bool_of.ensures)
