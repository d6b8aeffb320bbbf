use Rattle.hera_codegen.proofs.Forwards.{code_forward}
use Rattle.hera_codegen.proofs.correctness.code_of_programs_is_forward.Goals as goal

pub returns : goal.returns
returns c = code_forward
