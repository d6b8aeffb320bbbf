use Rattle.std.proofs.Common.{◌∙◌, sym, subst, arith}
use Rattle.hera_reads.specs.Walking.{AreGiven}
use Rattle.hera_frames.proofs.Settled.{given_more, given_end, unnamed}
use Rattle.hera_frames.proofs.settling.any_named.Goals as goal

pub loop-walk-preserved : goal.loop-walk-preserved
loop-walk-preserved c =
    given_more c.oldest_first-walk-items.result.now c.loop-walk.walk-index c.walk-item.result c.loop-walk-test.true c.walk-item.is
    (unnamed c.walk-item.result.rest (sym c.is_named.ensures ∙ c.if-is_named.false)) c.loop-walk.invariant

pub returns : goal.returns
returns c = λ _.
    subst AreGiven (sym c.oldest_first-walk-items.ensures)
    (given_end c.oldest_first-walk-items.result.now c.loop-walk.walk-index (omega (arith, c.loop-walk-test.false)) c.loop-walk.invariant)
