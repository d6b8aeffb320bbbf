use Rattle.hera_faults.proofs.Phrases.{group_least}
use Rattle.hera_faults.proofs.laws.group_tells_the_least.Goals as goal

pub returns : goal.returns
returns c = λ at by aggregates value uses names. group_least at by aggregates value.core value.type uses names
