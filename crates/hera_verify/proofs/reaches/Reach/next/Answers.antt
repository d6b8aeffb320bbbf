use Rattle.hera_verify.proofs.Reaching.{next_reach, next_there}
use Rattle.hera_verify.proofs.reaches.Reach.next.Goals as goal

pub returns-in-None : goal.returns-in-None
returns-in-None c = absurd (next_there c.args.code.now c.args.k c.args.self c.requires.more c.requires.own c.in-None.is)

pub returns-in-Some : goal.returns-in-Some
returns-in-Some c = next_reach c.args.code.now c.args.k c.in-Some.to c.args.self (record { from = c.greater.result; to = c.start_at.result }) c.requires.own c.in-Some.is c.greater.ensures c.start_at.ensures
