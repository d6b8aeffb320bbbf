use Rattle.std.proofs.Common.{arith, ◌∙◌}
use Rattle.hera_row.proofs.RowLemmas.{at_start, at_step, at_end}
use Rattle.hera_row.proofs.reading.field.Goals as goal

pub loop-place-init : goal.loop-place-init
loop-place-init c = at_start c.args.schema.now c.args.row.now c.args.i c.requires.row

pub loop-place-preserved : goal.loop-place-preserved
loop-place-preserved c =
    at_step c.args.schema.now c.args.row.now c.args.i c.loop-place.place c.attr.result.now c.loop-place.rest.now _ c.piece_len-piece.result c.attr.ensures.attr c.loop-place-test.true c.piece_len-piece.ensures.length c.split_at.ensures.back c.loop-place.invariant

pub scalar-requires : goal.scalar-requires
scalar-requires c =
    (at_end c.args.schema.now c.args.row.now c.args.i c.loop-place.place c.attr-2.result.now c.loop-place.rest.now c.attr-2.ensures.attr (omega (arith, c.loop-place-test.false, c.loop-place.auto.place-end)) c.loop-place.invariant).begins

pub returns : goal.returns
returns c =
    c.scalar.ensures
    ∙ (at_end c.args.schema.now c.args.row.now c.args.i c.loop-place.place c.attr-2.result.now c.loop-place.rest.now c.attr-2.ensures.attr (omega (arith, c.loop-place-test.false, c.loop-place.auto.place-end)) c.loop-place.invariant).same
