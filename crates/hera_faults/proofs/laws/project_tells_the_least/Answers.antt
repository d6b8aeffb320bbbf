use Rattle.hera_faults.proofs.Phrases.{project_least}
use Rattle.hera_faults.proofs.laws.project_tells_the_least.Goals as goal

pub returns : goal.returns
returns c = λ at words value o. project_least at words value.core value.type o
