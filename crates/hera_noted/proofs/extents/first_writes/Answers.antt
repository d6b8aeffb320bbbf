-- One instruction more.
use Rattle.std.proofs.Common.{◌∙◌, arith}
use Rattle.hera_noted.proofs.Writing.{writes_start, writes_end}
use Rattle.hera_noted.proofs.extents.first_writes.Goals as goal

pub loop-at-init : goal.loop-at-init
loop-at-init c = record { low = omega arith; long = c.in_ok-writes.ensures.long; writes = writes_start c.args.instrs.now c.args.body.start c.args.body.end c.in_ok-writes.writes.items c.in_ok-writes.ensures.none }

pub loop-at-preserved : goal.loop-at-preserved
loop-at-preserved c =
    let instrs = c.args.instrs.now in
    let inv = c.loop-at.invariant in
    let low = inv.low in
    let less = c.loop-at-test.true in
    let here = c.at.ensures in
    let new = c.note_write.ensures instrs c.args.body.start c.args.body.end low less here inv.writes in
    record { low = omega (arith, low); long = new.0 ∙ inv.long; writes = new.1 }

pub returns-clause-writes : goal.returns-clause-writes
returns-clause-writes c = writes_end c.args.instrs.now c.args.body.start c.args.body.end c.loop-at.at c.loop-at.writes.items (omega (arith, c.loop-at-test.false)) c.loop-at.invariant.writes
