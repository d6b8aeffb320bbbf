use Rattle.hera_meaning.proofs.DeltaLaws.{merge_of-comm}
use Rattle.hera_meaning.proofs.laws.merge_is_commutative.Goals as goal

pub returns : goal.returns
returns c = merge_of-comm
