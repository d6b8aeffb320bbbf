use Rattle.std.proofs.Common.{◌++◌, arith}
use Rattle.when_overlay.specs.Layered.{path}
use Rattle.when_overlay.proofs.Counting.{balance_after, none_for}
use Rattle.when_overlay.proofs.counts.count_after.Goals as goal

pub returns-in_err-put_in : goal.returns-in_err-put_in
returns-in_err-put_in g c =
    let all = balance_after c.args.rel.0 (g.S.Sorted.rows c.args.base.now) (c.args.commits.now ++ path c.args.layers.now.layers c.args.tip) c.requires.ordered in
    let many = c.in_err-put_in.ensures in
    none_for _ _ _ c.from_residual.ensures (omega (arith, all.put, many))

pub returns-in_err-taken_out : goal.returns-in_err-taken_out
returns-in_err-taken_out g c =
    let all = balance_after c.args.rel.0 (g.S.Sorted.rows c.args.base.now) (c.args.commits.now ++ path c.args.layers.now.layers c.args.tip) c.requires.ordered in
    let many = c.in_err-taken_out.ensures in
    none_for _ _ _ c.from_residual-in_err-taken_out.ensures (omega (arith, all.taken, many, c.requires.stored, c.ranges.stored.fits))

pub overflow_sub-stored : goal.overflow_sub-stored
overflow_sub-stored g c =
    let all = balance_after c.args.rel.0 (g.S.Sorted.rows c.args.base.now) (c.args.commits.now ++ path c.args.layers.now.layers c.args.tip) c.requires.ordered in
    let taken = c.in_ok-taken_out.ensures in
    omega (arith, all.taken, taken, c.requires.stored)

pub returns-in_err-count : goal.returns-in_err-count
returns-in_err-count g c =
    let all = balance_after c.args.rel.0 (g.S.Sorted.rows c.args.base.now) (c.args.commits.now ++ path c.args.layers.now.layers c.args.tip) c.requires.ordered in
    let put = c.in_ok-put_in.ensures in
    let taken = c.in_ok-taken_out.ensures in
    let many = c.in_err-count.ensures in
    none_for _ _ _ c.from_residual-in_err-count.ensures (omega (arith, all.sum, all.taken, put, taken, many, c.requires.stored))

pub returns-then-count-gt-ROWS_LIMIT : goal.returns-then-count-gt-ROWS_LIMIT
returns-then-count-gt-ROWS_LIMIT g c =
    let all = balance_after c.args.rel.0 (g.S.Sorted.rows c.args.base.now) (c.args.commits.now ++ path c.args.layers.now.layers c.args.tip) c.requires.ordered in
    let put = c.in_ok-put_in.ensures in
    let taken = c.in_ok-taken_out.ensures in
    let count = c.in_ok-count.ensures in
    omega (arith, all.sum, all.taken, put, taken, count, c.requires.stored, c.if-count-gt-ROWS_LIMIT.true)

pub returns : goal.returns
returns g c =
    let all = balance_after c.args.rel.0 (g.S.Sorted.rows c.args.base.now) (c.args.commits.now ++ path c.args.layers.now.layers c.args.tip) c.requires.ordered in
    let put = c.in_ok-put_in.ensures in
    let taken = c.in_ok-taken_out.ensures in
    let count = c.in_ok-count.ensures in
    (omega (arith, all.sum, all.taken, put, taken, count, c.requires.stored), omega (arith, c.if-count-gt-ROWS_LIMIT.false))
