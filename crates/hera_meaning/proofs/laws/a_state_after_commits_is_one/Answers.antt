use Rattle.hera_meaning.proofs.CommitLaws.{state_after_all}
use Rattle.hera_meaning.proofs.laws.a_state_after_commits_is_one.Goals as goal

pub returns : goal.returns
returns c = state_after_all
