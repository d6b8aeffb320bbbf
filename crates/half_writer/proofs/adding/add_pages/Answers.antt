use Rattle.std.proofs.Common.{List, None, Some, refl, sym, subst, arith}
use Rattle.std.specs.List.{filter}
use Rattle.std.specs.Option.{option_copied}
use Rattle.std.proofs.lemmas.Result.{err_from_is_err_and}
use Rattle.hera_sets.specs.Rows.{Row, is_past}
use Rattle.hera_sets.proofs.Lists.{filter_past_none, filter_past_step, filter_none_found, walk_falls}
use Rattle.half_writer.specs.Paging.{Task, IsPaging}
use Rattle.half_writer.proofs.RowSizes.{found_fits}
use Rattle.half_writer.proofs.Pagings.{begins}
use Rattle.half_writer.proofs.adding.add_pages.Goals as goal

pub loop-row-init : goal.loop-row-init
loop-row-init g c =
    let rows = g.S.Sorted.rows c.args.rows.now in
    let task : Task = record { front = c.args.bytes.now.items; first = c.args.before; rel = c.args.rel; all = rows } in
    record {
      paging = begins task (filter (is_past None) rows) c.new-page.result (filter_past_none rows) c.new-page.ensures.rows c.new-page.ensures.count c.new-page.ensures.before;
      before = omega (arith, c.new-page.ensures.before);
      room = omega arith;
    }

pub put_row-requires-clause-some : goal.put_row-requires-clause-some
put_row-requires-clause-some g c = (found_fits (is_past (option_copied c.loop-row.last)) (g.S.Sorted.rows c.args.rows.now) c.in-Some.row.now c.requires.rows (sym c.in-Some.ensures.next)).some

pub put_row-requires-clause-short : goal.put_row-requires-clause-short
put_row-requires-clause-short g c = (found_fits (is_past (option_copied c.loop-row.last)) (g.S.Sorted.rows c.args.rows.now) c.in-Some.row.now c.requires.rows (sym c.in-Some.ensures.next)).few

pub returns-in_err-page-clause-full : goal.returns-in_err-page-clause-full
returns-in_err-page-clause-full g c =
    let rows = g.S.Sorted.rows c.args.rows.now in
    let task : Task = record { front = c.args.bytes.now.items; first = c.args.before; rel = c.args.rel; all = rows } in
    let row = c.in-Some.row.now in
    let step = filter_past_step (option_copied c.loop-row.last) rows row c.in-Some.ensures.ordered (sym c.in-Some.ensures.next) in
    let p = err_from_is_err_and c.from_residual.result c.from_residual.ensures.1 in
    rw (p.1, p.2) (c.in_err-page.ensures.full task (filter (is_past (Some row)) rows) (subst (λ (rs : List Row). IsPaging task rs c.loop-row.bytes.items c.loop-row.page) step c.loop-row.invariant.paging))

pub loop-row-smaller : goal.loop-row-smaller
loop-row-smaller g c = walk_falls (g.S.Sorted.rows c.args.rows.now) (option_copied c.loop-row.last) c.in-Some.row.now c.in-Some.ensures.ordered (sym c.in-Some.ensures.next)

pub loop-row-preserved : goal.loop-row-preserved
loop-row-preserved g c =
    let rows = g.S.Sorted.rows c.args.rows.now in
    let task : Task = record { front = c.args.bytes.now.items; first = c.args.before; rel = c.args.rel; all = rows } in
    let row = c.in-Some.row.now in
    let step = filter_past_step (option_copied c.loop-row.last) rows row c.in-Some.ensures.ordered (sym c.in-Some.ensures.next) in
    record {
      paging = c.in_ok-page.ensures.paging task (filter (is_past (Some row)) rows) refl (subst (λ (rs : List Row). IsPaging task rs c.loop-row.bytes.items c.loop-row.page) step c.loop-row.invariant.paging);
      before = c.in_ok-page.ensures.before;
      room = c.in_ok-page.ensures.room;
    }

pub returns-clause-pages : goal.returns-clause-pages
returns-clause-pages g c =
    let rows = g.S.Sorted.rows c.args.rows.now in
    let task : Task = record { front = c.args.bytes.now.items; first = c.args.before; rel = c.args.rel; all = rows } in
    let none = filter_none_found (is_past (option_copied c.loop-row.last)) rows (sym c.in_default.ensures.next) in
    c.close_last.ensures.pages task refl (subst (λ (rs : List Row). IsPaging task rs c.loop-row.bytes.items c.loop-row.page) none c.loop-row.invariant.paging)

pub returns-clause-count : goal.returns-clause-count
returns-clause-count g c =
    let rows = g.S.Sorted.rows c.args.rows.now in
    let task : Task = record { front = c.args.bytes.now.items; first = c.args.before; rel = c.args.rel; all = rows } in
    let none = filter_none_found (is_past (option_copied c.loop-row.last)) rows (sym c.in_default.ensures.next) in
    c.close_last.ensures.count task (subst (λ (rs : List Row). IsPaging task rs c.loop-row.bytes.items c.loop-row.page) none c.loop-row.invariant.paging)

pub returns-clause-full : goal.returns-clause-full
returns-clause-full g c =
    let rows = g.S.Sorted.rows c.args.rows.now in
    let task : Task = record { front = c.args.bytes.now.items; first = c.args.before; rel = c.args.rel; all = rows } in
    let none = filter_none_found (is_past (option_copied c.loop-row.last)) rows (sym c.in_default.ensures.next) in
    c.close_last.ensures.full task (subst (λ (rs : List Row). IsPaging task rs c.loop-row.bytes.items c.loop-row.page) none c.loop-row.invariant.paging)
