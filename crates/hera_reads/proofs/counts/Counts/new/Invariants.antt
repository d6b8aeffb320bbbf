use Rattle.hera_reads.proofs.Counting.{NoneKnown}
use Rattle.hera_reads.proofs.counts.Counts.new.Given as goal

abbrev pub invariant-loop : goal.invariant-loop
invariant-loop l = NoneKnown l.numbers.items
