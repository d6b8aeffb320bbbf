use Rattle.hera_bind.proofs.Loops.{ChangedUpTo, StmtIsBound, ArmIsBound}
use Rattle.hera_bind.proofs.statements.+statement.Given as goal

abbrev pub invariant-bind_block-loop-i : goal.invariant-bind_block-loop-i
invariant-bind_block-loop-i l = goal.unvisited-bind_block-loop-i l × ChangedUpTo (StmtIsBound l.own l.catalogue) l.initial.block.items l.block.items l.i

abbrev pub invariant-bind_arms-loop-i : goal.invariant-bind_arms-loop-i
invariant-bind_arms-loop-i l = goal.unvisited-bind_arms-loop-i l × ChangedUpTo (ArmIsBound l.own l.catalogue) l.initial.arms.items l.arms.items l.i
