use Rattle.hera_packed.proofs.Outcomes_one.{one}
use Rattle.hera_packed.proofs.laws.a_file_comes_to_one_outcome.Goals as goal

pub returns : goal.returns
returns c = λ hosts turns bytes a b x y. one c.typed_code_is_never_rejected.ensures hosts turns bytes a b x y
