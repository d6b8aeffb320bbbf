use Rattle.hera_meaning.proofs.Levels.{run_alike}
use Rattle.hera_meaning.proofs.laws.depth_beyond_the_turns_changes_nothing.Goals as goal

pub returns : goal.returns
returns c = run_alike
