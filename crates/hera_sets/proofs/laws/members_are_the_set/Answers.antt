use Rattle.hera_sets.proofs.Members.{same_rows}
use Rattle.hera_sets.proofs.laws.members_are_the_set.Goals as goal

pub returns : goal.returns
returns c = same_rows
