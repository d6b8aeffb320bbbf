use Rattle.half_laws.proofs.Halves.{half_of_is}
use Rattle.half_laws.proofs.laws.the_half_of_a_state_is_a_half_with_it.Goals as goal

pub returns : goal.returns
returns c = λ rels state catalogue valid short. half_of_is rels state catalogue valid short
