use Rattle.std.proofs.Common.{◌≡◌, take, min}
use Rattle.hera_fits.specs.Newest.{newest}
use Rattle.hera_reads.specs.Walking.{walks_reach}
use Rattle.hera_frames.proofs.settling.reach_of.Given as goal

abbrev pub invariant-loop-walk : goal.invariant-loop-walk
invariant-loop-walk l = l.count ≡ min l.most (walks_reach (newest (λ x. x) (take l.walk-index l.walk-items)))
