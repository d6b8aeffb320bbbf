use Rattle.hera_bind.proofs.Loops.{ChangedUpTo, BodyIsBound}
use Rattle.hera_bind.proofs.statements.bind_bodies.Given as goal

abbrev pub invariant-loop-i : goal.invariant-loop-i
invariant-loop-i l = ChangedUpTo (BodyIsBound l.own l.catalogue) l.initial.bodies.items l.bodies.items l.i
