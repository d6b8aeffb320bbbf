use Rattle.std.proofs.Common.{refl}
use Rattle.hera_machine.proofs.Joined.{stored_on}
use Rattle.hera_machine.proofs.Quietly.{stays}
use Rattle.hera_machine.proofs.joins.join.Goals as goal

pub returns-in-None-clause-goes : goal.returns-in-None-clause-goes
returns-in-None-clause-goes c = λ rels hosts. stays c.args.code.now rels hosts c.args.stored.now.state _ _ refl

pub returns-in_ok-join_into-in-Some-clause-goes : goal.returns-in_ok-join_into-in-Some-clause-goes
returns-in_ok-join_into-in-Some-clause-goes c = λ rels hosts.
    stored_on c.args.code.now rels hosts c.args.stored.now.state c.args.work.now c.join_into.new.work c.in-Some.op.now c.in-Some.at c.in-Some.i c.in-Some.ensures c.in_ok-join_into-in-Some.ensures.done
