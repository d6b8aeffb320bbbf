use Rattle.hera_meaning.proofs.WiderLaws.{wide_state}
use Rattle.hera_meaning.proofs.laws.a_widened_state_is_a_state.Goals as goal

pub returns : goal.returns
returns c = λ old new s catalogue wider valid. wide_state old new s catalogue.distinct wider valid
