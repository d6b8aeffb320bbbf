use Rattle.hera_outcome.specs.Passages.{passage}
use Rattle.outcome_laws.proofs.Packed.{a_pack_is_complete}
use Rattle.outcome_laws.proofs.laws.a_pack_is_complete.Goals as goal

pub returns : goal.returns
returns g c = λ hosts name script files p before now first last status begins fine device output short accepted answers.
    a_pack_is_complete c.a_script_has_one_answer.ensures.never_both c.a_script_has_one_answer.ensures.program hosts script p short accepted name before now (passage g.W.Output g.W.Outside first last) status begins.texts_told fine device output answers
