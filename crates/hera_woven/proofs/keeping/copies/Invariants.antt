use Rattle.hera_woven.proofs.Commits.{AreCopied}
use Rattle.hera_woven.proofs.keeping.copies.Given as goal

abbrev pub invariant-loop-delta : goal.invariant-loop-delta
invariant-loop-delta l = AreCopied l.deltas l.delta-index l.copies.items
