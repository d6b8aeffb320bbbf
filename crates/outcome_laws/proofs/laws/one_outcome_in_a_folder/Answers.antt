use Rattle.hera_outcome.specs.Passages.{start}
use Rattle.outcome_laws.proofs.OneComes.{one_comes}
use Rattle.outcome_laws.proofs.laws.one_outcome_in_a_folder.Goals as goal

pub returns : goal.returns
returns g c = λ hosts name command texts files before now later after first second a b packs_none begins too came also not_a not_b.
    one_comes c.a_script_has_one_answer.ensures.refusal c.a_script_has_one_answer.ensures.never_both c.a_script_has_one_answer.ensures.program c.one_thing_is_found.ensures
    (λ v w bytes rels rels2 state state2 end end2 one two. c.a_half_has_one_catalogue_and_state.ensures.end v w bytes rels rels2 state state2 end end2 one two) (λ v bytes rels state half. c.a_half_has_one_version.ensures v bytes rels state half)
    c.rules_have_one_answer.ensures.refusal c.rules_have_one_answer.ensures.lines c.rules_have_one_answer.ensures.never_both c.a_number_tells_one_schedule.ensures.one c.a_file_comes_to_one_outcome.ensures
    hosts name texts files before now later after (start g.W.Outside first) (start g.W.Outside second) begins too a b not_a not_b command packs_none came also
