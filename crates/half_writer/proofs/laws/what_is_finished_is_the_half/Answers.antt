use Rattle.half_writer.proofs.Wholes.{half_written}
use Rattle.half_writer.proofs.laws.what_is_finished_is_the_half.Goals as goal

pub returns : goal.returns
returns c = λ f rels limit state. half_written f rels limit state
