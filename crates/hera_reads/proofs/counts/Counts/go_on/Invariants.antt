use Rattle.std.proofs.Common.{◌≡◌, length}
use Rattle.hera_meaning.specs.Deltas.{apply_of}
use Rattle.hera_reads.specs.Branched.{pending_of}
use Rattle.hera_reads.proofs.Counting.{AreBetween}
use Rattle.hera_reads.proofs.counts.Counts.go_on.Given as goal

abbrev pub invariant-loop-i : goal.invariant-loop-i
invariant-loop-i l = record {
  gone : AreBetween (apply_of l.stored.state (pending_of l.changes.layers)) (apply_of (apply_of l.stored.state (pending_of l.changes.layers)) l.delta) l.i l.self;
  long : length l.self ≡ length l.initial.self;
}
