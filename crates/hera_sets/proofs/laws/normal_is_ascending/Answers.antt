use Rattle.hera_sets.proofs.Members.{ascending_normal, holds-normal}
use Rattle.hera_sets.proofs.laws.normal_is_ascending.Goals as goal

pub returns-clause-ascends : goal.returns-clause-ascends
returns-clause-ascends c = ascending_normal

pub returns-clause-members : goal.returns-clause-members
returns-clause-members c = holds-normal
