use Rattle.std.proofs.Common.{length}
use Rattle.hera_lexer.proofs.Walk.{Walks}
use Rattle.hera_lexer.proofs.script.tokens_of.Given as goal

abbrev pub invariant-loop-rest : goal.invariant-loop-rest
invariant-loop-rest l = Walks l.fn.text l.tokens.items l.rest

abbrev pub decreases-loop-rest : goal.decreases-loop-rest
decreases-loop-rest l = length l.rest
