use Rattle.hera_verify.proofs.Answered.{answered}
use Rattle.hera_verify.proofs.laws.the_least_look_is_the_answer.Goals as goal

pub returns : goal.returns
returns c code rels hosts notes some_instr some_body b s f bodies slots flow = answered code rels hosts notes some_instr some_body b s f bodies slots flow
