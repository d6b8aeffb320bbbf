use Rattle.std.proofs.Common.{◌≡◌, length, map}
use Rattle.hera_frames.specs.Waiting.{poured, frame_settled}
use Rattle.hera_frames.proofs.settling.settle_frames_into.Given as goal

abbrev pub invariant-loop-frame : goal.invariant-loop-frame
invariant-loop-frame l =
    let turn = frame_settled l.stored.state l.changes.layers in
    poured (map turn l.frames) l.done ≡ poured (map turn l.initial.frames) l.initial.done

abbrev pub decreases-loop-frame : goal.decreases-loop-frame
decreases-loop-frame l = length l.frames
