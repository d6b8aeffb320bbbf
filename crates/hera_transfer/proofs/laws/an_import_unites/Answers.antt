use Rattle.hera_transfer.proofs.Uniting.{united, others}
use Rattle.hera_transfer.proofs.laws.an_import_unites.Goals as goal

pub returns-clause-united : goal.returns-clause-united
returns-clause-united c = λ s rel rows lt. united s rel rows lt

pub returns-clause-others : goal.returns-clause-others
returns-clause-others c = λ rels s rel other rows valid apart. others rels s rel other rows valid apart
