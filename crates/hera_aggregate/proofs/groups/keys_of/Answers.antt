use Rattle.std.proofs.Common.{◌≡◌, ◌+◌, ◌≤◌, ◌^◌, ℕ, List, [], ◌∷◌, ◌++◌, refl, sym, ap, ◌∙◌, map, length, length-append, arith}
use Rattle.std.specs.Option.{option_copied}
use Rattle.std.proofs.lemmas.Bool.{lt-ltb, le-ltb}
use Rattle.hera_sets.specs.Rows.{normal}
use Rattle.hera_sets.proofs.Lists.{filter_past_none, walk_step, walk_end, walk_falls}
use Rattle.hera_meaning.specs.Relations.{at_places}
use Rattle.rel_algebra.proofs.Gathered.{image_more}
use Rattle.hera_aggregate.proofs.Totals.{done_within}
use Rattle.hera_aggregate.proofs.groups.keys_of.Goals as goal

pub loop-row-init : goal.loop-row-init
loop-row-init g c = ([], filter_past_none (g.A.Sorted.rows c.args.a.now), c.new-keys.ensures, record { counted = refl; fits = omega arith })

pub loop-row-smaller : goal.loop-row-smaller
loop-row-smaller g c = walk_falls (g.A.Sorted.rows c.args.a.now) (option_copied c.loop-row.last) c.in-Some.row.now c.in-Some.ensures.ordered (sym c.in-Some.ensures.next)

pub returns-then-n-eq-ROWS_LIMIT-clause-refused : goal.returns-then-n-eq-ROWS_LIMIT-clause-refused
returns-then-n-eq-ROWS_LIMIT-clause-refused g c =
    let rows = g.A.Sorted.rows c.args.a.now in
    let within : length c.loop-row.invariant.0 + 1 ≤ length rows = done_within c.loop-row.invariant.0 rows (option_copied c.loop-row.last) c.in-Some.row.now c.in-Some.ensures.ordered (sym c.in-Some.ensures.next) c.loop-row.invariant.1 in
    let more : 2 ^ 63 ≤ length rows = omega (arith, within, c.loop-row.invariant.3.counted) in
    le-ltb (length rows) (2 ^ 63) more

pub loop-row-preserved : goal.loop-row-preserved
loop-row-preserved g c =
    let row = c.in-Some.row.now in
    let done = c.loop-row.invariant.0 in
    let counts = c.loop-row.invariant.3 in
    let image = at_places c.args.schema.now c.args.by.now in
    let cleared : c.clear.new.self.items ≡ [] = c.clear.ensures.items in
    let key : c.put_places.new.bytes.items ≡ image row = c.in_ok-put_places.ensures ∙ ap (λ t. t ++ image row) cleared in (
      done ++ row ∷ [],
      walk_step done (g.A.Sorted.rows c.args.a.now) (option_copied c.loop-row.last) row c.in-Some.ensures.ordered (sym c.in-Some.ensures.next) c.loop-row.invariant.1,
      image_more image done row c.deref.result.now c.loop-row.keys c.insert.new.self (c.deref.ensures.value ∙ key) c.loop-row.invariant.2 c.in_ok-insert.ensures.ok,
      record { counted = omega (arith, counts.counted, length-append done (row ∷ [])); fits = omega (arith, counts.fits, c.if-n-eq-ROWS_LIMIT.false) },
    )

pub returns-clause-keys : goal.returns-clause-keys
returns-clause-keys g c =
    c.loop-row.invariant.2 ∙ ap (λ (t : List (List ℕ)). normal (map (at_places c.args.schema.now c.args.by.now) t)) (walk_end c.loop-row.invariant.0 (g.A.Sorted.rows c.args.a.now) (option_copied c.loop-row.last) (sym c.in_default.ensures.next) c.loop-row.invariant.1)

pub returns-clause-few : goal.returns-clause-few
returns-clause-few g c =
    let rows = g.A.Sorted.rows c.args.a.now in
    let all = ap length (walk_end c.loop-row.invariant.0 rows (option_copied c.loop-row.last) (sym c.in_default.ensures.next) c.loop-row.invariant.1) in
    lt-ltb (length rows) (2 ^ 63) (omega (arith, all, c.loop-row.invariant.3.counted, c.loop-row.invariant.3.fits))
