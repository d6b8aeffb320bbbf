use Rattle.hera_outcome.specs.Passages.{start}
use Rattle.outcome_laws.proofs.Packed.{runs_as_it_evaluates}
use Rattle.outcome_laws.proofs.laws.a_packed_script_runs_as_it_evaluates.Goals as goal

pub returns : goal.returns
returns g c = λ hosts turns script text first outcome evaluated are packed did came.
    runs_as_it_evaluates c.a_script_has_one_answer.ensures.never_both c.a_script_has_one_answer.ensures.program c.accepted_programs_are_sound.ensures c.a_packed_program_does_what_it_means.ensures.only hosts turns script (start g.W.Outside first) are text outcome evaluated packed did came
