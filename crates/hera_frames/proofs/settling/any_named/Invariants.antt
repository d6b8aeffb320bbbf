use Rattle.std.proofs.Common.{take}
use Rattle.hera_fits.specs.Newest.{newest}
use Rattle.hera_reads.specs.Walking.{AreGiven}
use Rattle.hera_frames.proofs.settling.any_named.Given as goal

abbrev pub invariant-loop-walk : goal.invariant-loop-walk
invariant-loop-walk l = AreGiven (newest (λ x. x) (take l.walk-index l.walk-items))
