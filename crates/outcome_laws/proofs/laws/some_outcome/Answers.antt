use Rattle.hera_outcome.specs.Passages.{start}
use Rattle.outcome_laws.proofs.Covered.{some_outcome}
use Rattle.outcome_laws.proofs.laws.some_outcome.Goals as goal

pub returns : goal.returns
returns g c = λ hosts command script first.
    some_outcome c.some_tokens.ensures.some c.some_tokens.ensures.few c.some_tree.ensures c.faults_have_places.ensures c.typing_is_exact.ensures.scripts.always_one hosts command script (start g.W.Outside first)
