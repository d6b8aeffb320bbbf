use Rattle.std.proofs.Common.{◌∙◌}
use Rattle.join_exec.proofs.PairLemmas.{agree_skips, agree_goes_on, agree_fails, agree_ends}
use Rattle.join_exec.proofs.pairing.agree.Goals as goal
use Rattle.join_exec.proofs.pairing.agree.Goals.{in-Some+else-not-is_same, in_default}

pub returns-then-not-is_same : goal.returns-then-not-is_same
returns-then-not-is_same c =
    agree_fails c.args.left.now c.args.right.now c.args.places.now c.args.row.now c.args.other.now c.piece.result.now c.piece-in-Some.result.now c.loop-place.place c.in-Some.ours c.requires.places c.in-Some.ensures c.piece.ensures c.piece-in-Some.ensures c.if-not-is_same.ensures
    ∙ c.loop-place.invariant

pub loop-place-preserved : goal.loop-place-preserved
loop-place-preserved c =
    elim c.match-place_at.branch [
      | in-Some+else-not-is_same w ↦
          agree_goes_on c.args.left.now c.args.right.now c.args.places.now c.args.row.now c.args.other.now w.piece.result.now w.piece-in-Some.result.now c.loop-place.place w.in-Some.ours c.requires.places w.in-Some.ensures w.piece.ensures w.piece-in-Some.ensures w.if-not-is_same.ensures
          ∙ c.loop-place.invariant
      | in_default w ↦ agree_skips c.args.left.now c.args.right.now c.args.places.now c.args.row.now c.args.other.now c.loop-place.place c.requires.places w.in_default.ensures ∙ c.loop-place.invariant
    ]

pub returns : goal.returns
returns c = agree_ends c.args.left.now c.args.right.now c.args.places.now c.args.row.now c.args.other.now c.loop-place.place c.requires.places c.loop-place-test.false ∙ c.loop-place.invariant
