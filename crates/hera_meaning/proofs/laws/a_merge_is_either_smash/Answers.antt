use Rattle.hera_meaning.proofs.DeltaLaws.{merge-is-smash}
use Rattle.hera_meaning.proofs.laws.a_merge_is_either_smash.Goals as goal

pub returns-clause-first : goal.returns-clause-first
returns-clause-first c = λ a b d e h. (merge-is-smash a b d e h).0

pub returns-clause-second : goal.returns-clause-second
returns-clause-second c = λ a b d e h. (merge-is-smash a b d e h).1
