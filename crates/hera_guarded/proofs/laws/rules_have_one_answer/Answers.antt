use Rattle.hera_guarded.proofs.OneAnswer.{one_refusal, one_written, never_both}
use Rattle.hera_guarded.proofs.laws.rules_have_one_answer.Goals as goal

pub returns-clause-refusal : goal.returns-clause-refusal
returns-clause-refusal c = λ script. one_refusal script (c.one_answer.ensures script)

pub returns-clause-lines : goal.returns-clause-lines
returns-clause-lines c = λ script. one_written script (c.one_answer.ensures script)

pub returns-clause-never_both : goal.returns-clause-never_both
returns-clause-never_both c = λ script. never_both script (c.one_answer.ensures script)
