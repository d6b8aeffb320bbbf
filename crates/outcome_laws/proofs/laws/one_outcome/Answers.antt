use Rattle.hera_outcome.specs.Passages.{start}
use Rattle.outcome_laws.proofs.OneOutcome.{one_apart}
use Rattle.outcome_laws.proofs.Accepting.{accepted_exactly}
use Rattle.outcome_laws.proofs.laws.one_outcome.Goals as goal

pub returns-clause-one : goal.returns-clause-one
returns-clause-one g c = λ hosts command script first second a b. one_apart c.a_script_has_one_answer.ensures.refusal c.a_script_has_one_answer.ensures.never_both c.a_script_has_one_answer.ensures.program hosts command script (start g.W.Outside first) (start g.W.Outside second) a b

pub returns-clause-accepted : goal.returns-clause-accepted
returns-clause-accepted g c = λ hosts script first outcome. accepted_exactly c.a_script_has_one_answer.ensures.never_both hosts script (start g.W.Outside first) outcome
