use Rattle.hera_codegen.proofs.Operations.{all_facts}
use Rattle.hera_codegen.proofs.Whole.{state_in_kinds}
use Rattle.hera_typed.proofs.Runs.{safe_from}
use Rattle.hera_typed.proofs.laws.typed_code_is_safe.Goals as goal

pub returns : goal.returns
returns c code rels hosts notes points typed fit specs s n state = safe_from code rels hosts notes points typed (all_facts rels hosts specs) fit s n (state_in_kinds rels s state)
