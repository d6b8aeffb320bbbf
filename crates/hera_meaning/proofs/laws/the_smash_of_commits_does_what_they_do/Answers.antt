use Rattle.hera_meaning.proofs.CommitLaws.{smash_all_is}
use Rattle.hera_meaning.proofs.laws.the_smash_of_commits_does_what_they_do.Goals as goal

pub returns : goal.returns
returns c = smash_all_is
