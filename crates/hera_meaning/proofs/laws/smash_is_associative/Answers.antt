use Rattle.hera_meaning.proofs.DeltaLaws.{smash_of-assoc}
use Rattle.hera_meaning.proofs.laws.smash_is_associative.Goals as goal

pub returns : goal.returns
returns c = smash_of-assoc
