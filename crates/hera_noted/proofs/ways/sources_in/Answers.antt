-- One instruction more.
use Rattle.std.proofs.Common.{◌∙◌, arith}
use Rattle.hera_noted.proofs.Sourced.{sources_start, sources_end}
use Rattle.hera_noted.proofs.ways.sources_in.Goals as goal

pub loop-at-init : goal.loop-at-init
loop-at-init c = (omega arith, sources_start c.args.instrs.now c.args.body.start c.args.body.end c.in_ok-all.all.items (c.in_ok-all.ensures.long ∙ c.saturating_sub.ensures) c.in_ok-all.ensures.own)

pub note_way-requires-clause-start : goal.note_way-requires-clause-start
note_way-requires-clause-start c = c.loop-at.invariant.0

pub note_way-requires-clause-long : goal.note_way-requires-clause-long
note_way-requires-clause-long c = c.loop-at.invariant.1.long

pub loop-at-preserved : goal.loop-at-preserved
loop-at-preserved c =
    let instrs = c.args.instrs.now in
    let inv = c.loop-at.invariant in
    let low = inv.0 in
    let here = c.at.ensures in
    (omega (arith, low), c.note_way.ensures instrs here inv.1)

pub returns : goal.returns
returns c = sources_end c.args.instrs.now c.args.body.start c.args.body.end c.loop-at.at c.loop-at.all.items (omega (arith, c.loop-at-test.false)) c.loop-at.invariant.1
