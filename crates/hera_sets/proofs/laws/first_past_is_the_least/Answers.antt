use Rattle.hera_sets.proofs.Next.{find_is_next}
use Rattle.hera_sets.proofs.laws.first_past_is_the_least.Goals as goal

pub returns : goal.returns
returns c = find_is_next
