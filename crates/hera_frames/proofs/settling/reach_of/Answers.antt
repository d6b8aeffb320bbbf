use Rattle.std.proofs.Common.{◌∙◌, min, sym, ap, arith}
use Rattle.hera_reads.specs.Walking.{walks_reach}
use Rattle.hera_frames.proofs.Settled.{paces_more, paces_end}
use Rattle.hera_frames.proofs.settling.reach_of.Goals as goal

pub loop-walk-preserved : goal.loop-walk-preserved
loop-walk-preserved c =
    let next = paces_more c.oldest_first-walk-items.result.now c.loop-walk.walk-index c.args.most c.loop-walk.count c.walk-item.result c.loop-walk-test.true c.walk-item.is c.loop-walk.invariant in
    omega (arith, next, c.max-count.ensures, c.reach.ensures)

pub returns : goal.returns
returns c =
    paces_end c.oldest_first-walk-items.result.now c.loop-walk.walk-index c.args.most c.loop-walk.count (omega (arith, c.loop-walk-test.false)) c.loop-walk.invariant
    ∙ ap (λ ws. min c.args.most (walks_reach ws)) (sym c.oldest_first-walk-items.ensures)
