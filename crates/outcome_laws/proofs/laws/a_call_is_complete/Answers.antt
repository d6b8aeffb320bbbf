use Rattle.hera_outcome.specs.Passages.{passage}
use Rattle.outcome_laws.proofs.Complete.{a_call_is_complete}
use Rattle.outcome_laws.proofs.laws.a_call_is_complete.Goals as goal

pub returns : goal.returns
returns g c = λ hosts name command texts files before now after first last status outcome packs_none.
    a_call_is_complete c.a_script_has_one_answer.ensures.refusal c.a_script_has_one_answer.ensures.never_both c.a_script_has_one_answer.ensures.program c.one_thing_is_found.ensures
    (λ v w bytes rels rels2 state state2 end end2 one two. c.a_half_has_one_catalogue_and_state.ensures.end v w bytes rels rels2 state state2 end end2 one two) (λ v bytes rels state half. c.a_half_has_one_version.ensures v bytes rels state half)
    c.rules_have_one_answer.ensures.refusal c.rules_have_one_answer.ensures.lines c.rules_have_one_answer.ensures.never_both c.a_number_tells_one_schedule.ensures.one c.a_file_comes_to_one_outcome.ensures
    hosts name command texts files packs_none before now after (passage g.W.Output g.W.Outside first last) status outcome
