use Rattle.std.proofs.Common.{◌≡◌, ◌+◌, ◌<◌, ◌≤◌, ◌^◌, ◌+ℤ◌, [], ◌∷◌, ◌++◌, refl, sym, ap, ◌∙◌, subst, length, length-append, drop, arith, ℤ, to_z, of_z}
use mir.Syntax.{w128}
use Rattle.std.specs.Option.{option_copied}
use Rattle.std.proofs.lemmas.Bool.{lt-ltb, le-ltb}
use Rattle.std.proofs.lemmas.Int.{ints}
use Rattle.hera_sets.specs.Rows.{is_past}
use Rattle.hera_sets.proofs.Lists.{filter_past_none, walk_step, walk_end, walk_falls}
use Rattle.hera_meaning.specs.Rows.{IsRow, field_at}
use Rattle.hera_meaning.specs.Aggregates.{int_of, sum_of}
use Rattle.rel_algebra.specs.Fronts.{rows_behind}
use Rattle.hera_aggregate.proofs.Totals.{all_found, total_more, added, within_more, done_within}
use Rattle.hera_aggregate.proofs.sums.total.Goals as goal

pub loop-row-init : goal.loop-row-init
loop-row-init g c = ([], filter_past_none (g.A.Sorted.rows c.args.a.now), refl, record { low = omega (arith, ints); high = omega (arith, ints) }, record { counted = refl; fits = omega arith })

pub int_at-requires-clause-row : goal.int_at-requires-clause-row
int_at-requires-clause-row g c =
    subst (IsRow c.args.schema.now) (sym c.behind.ensures)
    (all_found (IsRow c.args.schema.now) (is_past (option_copied c.loop-row.last)) c.args.skip (g.A.Sorted.rows c.args.a.now) c.in-Some.row.now c.requires.rows (sym c.in-Some.ensures.next))

pub loop-row-smaller : goal.loop-row-smaller
loop-row-smaller g c = walk_falls (g.A.Sorted.rows c.args.a.now) (option_copied c.loop-row.last) c.in-Some.row.now c.in-Some.ensures.ordered (sym c.in-Some.ensures.next)

pub loop-row-preserved : goal.loop-row-preserved
loop-row-preserved g c =
    let rows = g.A.Sorted.rows c.args.a.now in
    let row = c.in-Some.row.now in
    let done = c.loop-row.invariant.0 in
    let counts = c.loop-row.invariant.4 in
    let few : length done + 1 < 2 ^ 63 = omega (arith, counts.counted, counts.fits, c.if-n-eq-ROWS_LIMIT.false) in
    let total : ℤ = to_z w128 c.loop-row.total-bits in
    let after : to_z w128 (of_z w128 (total +ℤ to_z w128 (of_z w128 c.from-total.result))) ≡ total +ℤ c.int_at.result =
    added (length done) c.loop-row.total-bits c.int_at.result c.from-total.result c.loop-row.invariant.3 few c.int_at.ensures.low c.int_at.ensures.high c.from-total.ensures
    in
    let value : c.int_at.result ≡ int_of (field_at c.args.schema.now (drop c.args.skip row) c.args.i) = c.int_at.ensures.int ∙ ap (λ x. int_of (field_at c.args.schema.now x c.args.i)) c.behind.ensures in (
      done ++ row ∷ [],
      walk_step done rows (option_copied c.loop-row.last) row c.in-Some.ensures.ordered (sym c.in-Some.ensures.next) c.loop-row.invariant.1,
      total_more c.args.schema.now c.args.i c.args.skip done row total c.int_at.result _ value after c.loop-row.invariant.2,
      within_more (length done) (length (done ++ row ∷ [])) total c.int_at.result _ c.loop-row.invariant.3 c.int_at.ensures.low c.int_at.ensures.high after (length-append done (row ∷ [])),
      record { counted = omega (arith, counts.counted, few, length-append done (row ∷ [])); fits = omega (arith, counts.counted, few) },
    )

pub returns-then-n-eq-ROWS_LIMIT-clause-overflow : goal.returns-then-n-eq-ROWS_LIMIT-clause-overflow
returns-then-n-eq-ROWS_LIMIT-clause-overflow g c =
    let rows = g.A.Sorted.rows c.args.a.now in
    let within : length c.loop-row.invariant.0 + 1 ≤ length rows = done_within c.loop-row.invariant.0 rows (option_copied c.loop-row.last) c.in-Some.row.now c.in-Some.ensures.ordered (sym c.in-Some.ensures.next) c.loop-row.invariant.1 in
    let more : 2 ^ 63 ≤ length rows = omega (arith, within, c.loop-row.invariant.4.counted) in
    (refl, le-ltb (length rows) (2 ^ 63) more)

pub returns-clause-sum : goal.returns-clause-sum
returns-clause-sum g c =
    c.loop-row.invariant.2
    ∙ ap (λ rows. sum_of c.args.schema.now c.args.i (rows_behind c.args.skip rows)) (walk_end c.loop-row.invariant.0 (g.A.Sorted.rows c.args.a.now) (option_copied c.loop-row.last) (sym c.in_default.ensures.next) c.loop-row.invariant.1)

pub returns-clause-few : goal.returns-clause-few
returns-clause-few g c =
    let rows = g.A.Sorted.rows c.args.a.now in
    let all = ap length (walk_end c.loop-row.invariant.0 rows (option_copied c.loop-row.last) (sym c.in_default.ensures.next) c.loop-row.invariant.1) in
    lt-ltb (length rows) (2 ^ 63) (omega (arith, all, c.loop-row.invariant.4.counted, c.loop-row.invariant.4.fits))
