use Rattle.std.proofs.Common.{arith, ◌<◌}
use Rattle.rel_algebra.proofs.PieceLemmas.{before_start, before_here, before_step}
use Rattle.rel_algebra.proofs.pieces.piece.Goals as goal

pub loop-place-init : goal.loop-place-init
loop-place-init c = before_start c.args.schema.now c.args.row.now c.args.i

pub returns-then-place-i : goal.returns-then-place-i
returns-then-place-i c =
    before_here c.args.schema.now c.args.row.now c.args.i c.loop-place.place c.attr.result.now c.loop-place.rest.now c.split_at.result.0.now c.piece_len.result c.attr.ensures.attr c.if-place-i.true c.piece_len.ensures.length c.split_at.ensures.front c.loop-place.invariant

pub loop-place-preserved : goal.loop-place-preserved
loop-place-preserved c =
    let below : c.loop-place.place < c.args.i = omega (arith, c.if-place-i.false, c.loop-place.invariant.before) in
    before_step c.args.schema.now c.args.row.now c.args.i c.loop-place.place c.attr.result.now c.loop-place.rest.now c.split_at.result.1.now c.piece_len.result c.attr.ensures.attr below c.piece_len.ensures.length c.split_at.ensures.back c.loop-place.invariant
