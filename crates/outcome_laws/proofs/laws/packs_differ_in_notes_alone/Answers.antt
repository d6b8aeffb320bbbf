use Rattle.outcome_laws.proofs.Packed.{alike}
use Rattle.outcome_laws.proofs.laws.packs_differ_in_notes_alone.Goals as goal

pub returns : goal.returns
returns c = λ hosts script a b x y. alike c.a_script_has_one_answer.ensures.refusal c.a_script_has_one_answer.ensures.never_both c.a_script_has_one_answer.ensures.program hosts script a b x y
