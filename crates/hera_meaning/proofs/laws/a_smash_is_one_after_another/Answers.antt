use Rattle.hera_meaning.proofs.DeltaLaws.{apply_of-smash_of}
use Rattle.hera_meaning.proofs.laws.a_smash_is_one_after_another.Goals as goal

pub returns : goal.returns
returns c = apply_of-smash_of
