use Rattle.hera_verify.specs.Spans.{AreSpans}
use Rattle.hera_verify.proofs.spans.spans_of.Given as goal

abbrev pub invariant-loop-a : goal.invariant-loop-a
invariant-loop-a l = AreSpans l.instrs l.a 1 l.spans.items
