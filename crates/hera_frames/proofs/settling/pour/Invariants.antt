use Rattle.std.proofs.Common.{◌≡◌, length}
use Rattle.hera_frames.specs.Waiting.{poured}
use Rattle.hera_frames.proofs.settling.pour.Given as goal

abbrev pub invariant-loop-item : goal.invariant-loop-item
invariant-loop-item g l = poured l.from l.to ≡ poured l.initial.from l.initial.to

abbrev pub decreases-loop-item : goal.decreases-loop-item
decreases-loop-item g l = length l.from
