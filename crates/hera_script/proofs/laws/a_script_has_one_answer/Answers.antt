use Rattle.hera_script.proofs.One.{one_refusal, never_both}
use Rattle.hera_script.proofs.laws.a_script_has_one_answer.Goals as goal

pub returns-clause-refusal : goal.returns-clause-refusal
returns-clause-refusal c = λ hosts script.
    one_refusal hosts script (c.one_answer.ensures script) c.one_fault.ensures c.a_script_has_one_program.ensures.script c.typing_is_exact.ensures.scripts

pub returns-clause-never_both : goal.returns-clause-never_both
returns-clause-never_both c = λ hosts script.
    never_both hosts script (c.one_answer.ensures script) c.one_fault.ensures c.a_script_has_one_program.ensures.script c.typing_is_exact.ensures.scripts

pub returns-clause-program : goal.returns-clause-program
returns-clause-program c = λ hosts script p q. c.a_script_has_one_program.ensures.program script hosts p q
