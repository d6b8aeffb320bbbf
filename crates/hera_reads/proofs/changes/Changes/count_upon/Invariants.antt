use Rattle.std.proofs.Common.{◌≡◌, ◌+◌, ◌<◌, length}
use Rattle.hera_meaning.specs.Deltas.{rows_at}
use Rattle.hera_reads.specs.Branched.{under, seen_at}
use Rattle.hera_reads.proofs.changes.Changes.count_upon.Given as goal

-- the rows under the tip are those under the layer at hand and the changes of those passed
abbrev pub invariant-loop-at : goal.invariant-loop-at
invariant-loop-at l = record {
  within : l.at < length l.self.layers;
  sum : length (rows_at (seen_at l.stored.state l.self.layers l.tip) l.rel.0) + l.taken_out ≡ length (rows_at (seen_at l.stored.state l.self.layers l.at) l.rel.0) + l.put_in;
}

abbrev pub decreases-loop-at : goal.decreases-loop-at
decreases-loop-at l = length (under l.self.layers l.at)
