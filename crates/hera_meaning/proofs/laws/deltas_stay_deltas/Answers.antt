use Rattle.hera_meaning.proofs.DeltaLaws.{smash_is_delta, merge_is_delta}
use Rattle.hera_meaning.proofs.laws.deltas_stay_deltas.Goals as goal

pub returns-clause-smash : goal.returns-clause-smash
returns-clause-smash c = smash_is_delta

pub returns-clause-merge : goal.returns-clause-merge
returns-clause-merge c = merge_is_delta
