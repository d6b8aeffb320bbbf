use Rattle.half_writer.proofs.Wholes.{one_more_written}
use Rattle.half_writer.proofs.laws.a_relation_more_is_added.Goals as goal

pub returns : goal.returns
returns c = λ f rels limit state rows. one_more_written f rels limit state rows
