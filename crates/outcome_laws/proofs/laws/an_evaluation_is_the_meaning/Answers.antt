use Rattle.hera_outcome.specs.Passages.{start}
use Rattle.outcome_laws.proofs.Evaluated.{evaluated}
use Rattle.outcome_laws.proofs.laws.an_evaluation_is_the_meaning.Goals as goal

pub returns : goal.returns
returns g c = λ hosts turns script first outcome.
    evaluated c.accepted_programs_are_sound.ensures c.a_program_is_bound_to_its_own_relations.ensures.has c.a_program_is_bound_to_its_own_relations.ensures.same hosts turns script (start g.W.Outside first) outcome
