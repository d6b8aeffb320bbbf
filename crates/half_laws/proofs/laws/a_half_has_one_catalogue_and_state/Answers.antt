use Rattle.half_laws.proofs.Halves.{one_content_of, one_place_of}
use Rattle.half_laws.proofs.laws.a_half_has_one_catalogue_and_state.Goals as goal

pub returns-clause-content : goal.returns-clause-content
returns-clause-content c = λ bytes rels rels2 state state2 h g. one_content_of bytes rels rels2 state state2 h g

pub returns-clause-end : goal.returns-clause-end
returns-clause-end c = λ v w bytes rels rels2 state state2 end end2 h g. one_place_of v w bytes rels rels2 state state2 end end2 h g
