use Rattle.std.proofs.Common.{◌≡◌, ◌≤◌, ◌^◌, refl, sym, ap, length, arith}
use Rattle.std.specs.Option.{option_copied}
use Rattle.std.proofs.lemmas.Bool.{lt-ltb, le-ltb}
use Rattle.std.proofs.lemmas.Int.{ints}
use Rattle.hera_sets.proofs.Lists.{filter_past_none, walk_falls, count_step, count_within, count_end}
use Rattle.hera_aggregate.proofs.counting.count.Goals as goal

pub loop-row-init : goal.loop-row-init
loop-row-init g c = record { counted = omega (arith, ap length (filter_past_none (g.A.Sorted.rows c.args.a.now))); fits = omega arith }

pub loop-row-smaller : goal.loop-row-smaller
loop-row-smaller g c = walk_falls (g.A.Sorted.rows c.args.a.now) (option_copied c.loop-row.last) c.in-Some.row.now c.in-Some.ensures.ordered (sym c.in-Some.ensures.next)

pub returns-then-n-eq-ROWS_LIMIT-clause-overflow : goal.returns-then-n-eq-ROWS_LIMIT-clause-overflow
returns-then-n-eq-ROWS_LIMIT-clause-overflow g c =
    let rows = g.A.Sorted.rows c.args.a.now in
    let more : 2 ^ 63 ≤ length rows = omega (arith, count_within c.loop-row.n rows (option_copied c.loop-row.last) c.in-Some.row.now c.in-Some.ensures.ordered (sym c.in-Some.ensures.next) c.loop-row.invariant.counted) in
    (refl, le-ltb (length rows) (2 ^ 63) more)

pub loop-row-preserved : goal.loop-row-preserved
loop-row-preserved g c =
    record {
      counted = count_step c.loop-row.n (g.A.Sorted.rows c.args.a.now) (option_copied c.loop-row.last) c.in-Some.row.now c.in-Some.ensures.ordered (sym c.in-Some.ensures.next) c.loop-row.invariant.counted;
      fits = omega arith;
    }

pub returns-clause-count : goal.returns-clause-count
returns-clause-count g c =
    let all : c.loop-row.n ≡ length (g.A.Sorted.rows c.args.a.now) = count_end c.loop-row.n (g.A.Sorted.rows c.args.a.now) (option_copied c.loop-row.last) (sym c.in_default.ensures.next) c.loop-row.invariant.counted in
    omega (arith, ints, all, c.int.ensures, c.loop-row.invariant.fits)

pub returns-clause-few : goal.returns-clause-few
returns-clause-few g c =
    let all : c.loop-row.n ≡ length (g.A.Sorted.rows c.args.a.now) = count_end c.loop-row.n (g.A.Sorted.rows c.args.a.now) (option_copied c.loop-row.last) (sym c.in_default.ensures.next) c.loop-row.invariant.counted in
    lt-ltb (length (g.A.Sorted.rows c.args.a.now)) (2 ^ 63) (omega (arith, all, c.loop-row.invariant.fits))
