use Rattle.hera_faults.proofs.Phrases.{rename_least}
use Rattle.hera_faults.proofs.laws.rename_tells_the_least.Goals as goal

pub returns : goal.returns
returns c = λ at pairs value o. rename_least at pairs value.core value.type o
