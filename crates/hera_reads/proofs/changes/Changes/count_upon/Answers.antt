use Rattle.std.proofs.Common.{ap, subst, length, arith}
use Rattle.hera_meaning.specs.Deltas.{State, rows_at}
use Rattle.hera_reads.specs.Branched.{Branches, IsTree}
use Rattle.hera_reads.proofs.Counting.{seen_root}
use Rattle.hera_reads.proofs.changes.Changes.count_upon.Goals as goal

pub loop-at-init : goal.loop-at-init
loop-at-init c =
    let same = ap (λ (x : State). length (rows_at x c.args.rel.0)) (c.there-at.ensures.seen c.args.stored.now.state) in
    record { within = c.there-at.ensures.within; sum = omega (arith, same) }

pub loop-at-preserved : goal.loop-at-preserved
loop-at-preserved c =
    let one = c.in_ok-change.ensures.change in
    let put = c.in_ok-put_in.ensures in
    let taken = c.in_ok-taken_out.ensures in
    record { within = c.below-below.ensures.within; sum = omega (arith, c.loop-at.invariant.sum, one, put.1, taken.1) }

pub loop-at-smaller : goal.loop-at-smaller
loop-at-smaller c = c.change.ensures.lower

pub returns-then-count-le-ROWS_LIMIT : goal.returns-then-count-le-ROWS_LIMIT
returns-then-count-le-ROWS_LIMIT c =
    let tree = subst (λ (r : Branches). IsTree r.layers) c.self.view_is c.self.invariant.0 in
    let root = ap (λ (x : State). length (rows_at x c.args.rel.0)) (seen_root c.args.stored.now.state c.args.self.now.layers c.loop-at.at tree c.loop-at-test.false) in
    (omega (arith, root, c.loop-at.invariant.sum, c.requires.pending.0), omega arith)
