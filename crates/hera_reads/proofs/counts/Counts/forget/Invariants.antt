use Rattle.std.proofs.Common.{◌≡◌, length}
use Rattle.hera_reads.proofs.Counting.{KnownFrom}
use Rattle.hera_reads.proofs.counts.Counts.forget.Given as goal

abbrev pub invariant-loop-i : goal.invariant-loop-i
invariant-loop-i l = record {
  gone : KnownFrom l.i l.self;
  long : length l.self ≡ length l.initial.self;
}
