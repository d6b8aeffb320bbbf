use Rattle.std.proofs.Common.{◌≡◌, length, map}
use Rattle.hera_reads.specs.Walking.{settled}
use Rattle.hera_frames.specs.Waiting.{poured}
use Rattle.hera_frames.proofs.settling.settle_into.Given as goal

abbrev pub invariant-loop-walk : goal.invariant-loop-walk
invariant-loop-walk l =
    let turn = settled l.stored.state l.changes.layers in
    poured (map turn l.walks) l.done ≡ poured (map turn l.initial.walks) l.initial.done

abbrev pub decreases-loop-walk : goal.decreases-loop-walk
decreases-loop-walk l = length l.walks
