use Rattle.hera_meaning.proofs.DeltaLaws.{merge_of-assoc}
use Rattle.hera_meaning.proofs.laws.merge_is_associative.Goals as goal

pub returns : goal.returns
returns c = merge_of-assoc
