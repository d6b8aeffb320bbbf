use Rattle.rel_format.proofs.Greedy.{paged_again}
use Rattle.rel_format.proofs.laws.pages_are_greedy.Goals as goal

pub returns : goal.returns
returns c = λ page pages h. paged_again page pages h
