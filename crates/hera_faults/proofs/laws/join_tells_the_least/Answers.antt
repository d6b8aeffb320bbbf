use Rattle.hera_faults.proofs.Phrases.{join_least}
use Rattle.hera_faults.proofs.laws.join_tells_the_least.Goals as goal

pub returns : goal.returns
returns c = λ at left right. join_least at left.core right.core left.type right.type
