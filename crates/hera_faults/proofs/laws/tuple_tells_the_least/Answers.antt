use Rattle.hera_faults.proofs.Phrases.{tuple_least}
use Rattle.hera_faults.proofs.laws.tuple_tells_the_least.Goals as goal

pub returns : goal.returns
returns c = λ at words values o. tuple_least at words values o
