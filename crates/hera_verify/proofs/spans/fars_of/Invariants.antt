use Rattle.hera_verify.proofs.Spanning.{FarTo}
use Rattle.hera_verify.proofs.spans.fars_of.Given as goal

abbrev pub invariant-loop-a : goal.invariant-loop-a
invariant-loop-a l = FarTo l.instrs l.a l.fars.items l.far
