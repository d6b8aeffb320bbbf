use Rattle.hera_outcome.specs.Passages.{start}
use Rattle.outcome_laws.proofs.Wholes.{told_outcome}
use Rattle.outcome_laws.proofs.laws.told_outcome.Goals as goal

pub returns : goal.returns
returns g c = λ hosts command script bytes before now first outcome. told_outcome hosts command script bytes before now (start g.W.Outside first) outcome
