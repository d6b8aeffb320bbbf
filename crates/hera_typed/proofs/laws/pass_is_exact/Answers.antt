-- The pass keeps what it has found, step by step.
use Rattle.hera_typed.proofs.Passes.{pass_exact}
use Rattle.hera_typed.proofs.laws.pass_is_exact.Goals as goal

pub returns : goal.returns
returns c code rels hosts notes = pass_exact code rels hosts notes
