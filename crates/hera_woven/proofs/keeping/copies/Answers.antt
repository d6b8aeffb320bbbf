use Rattle.hera_woven.proofs.Commits.{copied_next}
use Rattle.hera_woven.proofs.keeping.copies.Goals as goal

pub loop-delta-preserved : goal.loop-delta-preserved
loop-delta-preserved c =
    copied_next c.args.deltas.now c.loop-delta.delta-index c.loop-delta.copies.items c.put_copy.new.copies.items c.delta-item.result c.loop-delta-test.true c.delta-item.is c.in_ok-put_copy.ensures.fails c.in_ok-put_copy.ensures.proper c.loop-delta.invariant
