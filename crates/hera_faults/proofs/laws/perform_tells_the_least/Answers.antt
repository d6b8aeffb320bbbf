use Rattle.hera_faults.proofs.Phrases.{perform_least}
use Rattle.hera_faults.proofs.laws.perform_tells_the_least.Goals as goal

pub returns : goal.returns
returns c = λ env in_func word values. perform_least env in_func word values
