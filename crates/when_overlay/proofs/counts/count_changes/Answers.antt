use Rattle.std.proofs.Common.{◌++◌, ◌∙◌, ap, length, arith}
use mir.Val.{bool_byte}
use Rattle.std.specs.Option.{option_copied}
use Rattle.when_overlay.specs.Changed.{rows_after}
use Rattle.when_overlay.specs.Counting.{changes}
use Rattle.when_overlay.specs.Layered.{path}
use Rattle.when_overlay.proofs.Counting.{count_starts, count_goes, count_ends, walk_goes, none_for}
use Rattle.when_overlay.proofs.counts.count_changes.Goals as goal

pub loop-row-init : goal.loop-row-init
loop-row-init g c = count_starts c.args.sign c.args.rel.0 (g.S.Sorted.rows c.args.base.now) (c.args.commits.now ++ path c.args.layers.now.layers c.args.tip) c.requires.ordered

pub loop-row-smaller : goal.loop-row-smaller
loop-row-smaller g c = walk_goes c.args.sign c.args.rel.0 (c.args.commits.now ++ path c.args.layers.now.layers c.args.tip) (option_copied c.loop-row.last) c.in-Some.row.now c.in-Some.ensures

pub returns-in_err-count : goal.returns-in_err-count
returns-in_err-count g c =
    let rows = g.S.Sorted.rows c.args.base.now in
    let ds = c.args.commits.now ++ path c.args.layers.now.layers c.args.tip in
    let all = length (changes c.args.sign rows (rows_after c.args.rel.0 rows ds)) in
    let further = count_goes c.args.sign c.args.rel.0 rows ds c.loop-row.count all (option_copied c.loop-row.last) c.in-Some.row.now c.in-Some.ensures c.loop-row.invariant in
    let one = c.from.ensures ∙ ap bool_byte c.is_change-change.ensures in
    let large = c.in_err-count.ensures in
    none_for _ _ _ c.from_residual.ensures (omega (arith, further, one, large))

pub loop-row-preserved : goal.loop-row-preserved
loop-row-preserved g c =
    let rows = g.S.Sorted.rows c.args.base.now in
    let ds = c.args.commits.now ++ path c.args.layers.now.layers c.args.tip in
    let all = length (changes c.args.sign rows (rows_after c.args.rel.0 rows ds)) in
    let further = count_goes c.args.sign c.args.rel.0 rows ds c.loop-row.count all (option_copied c.loop-row.last) c.in-Some.row.now c.in-Some.ensures c.loop-row.invariant in
    let one = c.from.ensures ∙ ap bool_byte c.is_change-change.ensures in
    let sum = c.in_ok-count.ensures.1 in
    omega (arith, further, one, sum)

pub returns : goal.returns
returns g c =
    let rows = g.S.Sorted.rows c.args.base.now in
    let ds = c.args.commits.now ++ path c.args.layers.now.layers c.args.tip in
    count_ends c.args.sign c.args.rel.0 rows ds c.loop-row.count (length (changes c.args.sign rows (rows_after c.args.rel.0 rows ds))) (option_copied c.loop-row.last) c.in_default.ensures c.loop-row.invariant
