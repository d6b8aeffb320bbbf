use Rattle.std.proofs.Common.{◌≡◌, ◌≤◌, ◌<◌, ◌/◌, ◌∙◌, List, ℕ, sym, ap, subst, length, take, drop, arith}
use Rattle.rel_pages.specs.Rels.{rows_counted}
use Rattle.rel_pages.specs.Starts.{IsStart}
use Rattle.rel_pages.proofs.Runs.{run_starts}
use Rattle.rel_pages.proofs.Nears.{page_in}
use Rattle.rel_pages.proofs.Beginnings.{OnPage, on_start, on_next, starts_here}
use Rattle.rel_pages.proofs.starts.start_on.Goals as goal

pub row_count-requires : goal.row_count-requires
row_count-requires c =
    let here = page_in c.args.schema.now c.args.page (length c.args.pages.now / c.args.page) c.args.start.page c.args.pages.now c.requires.start.there c.requires.paged.pages in
    subst (λ (x : List ℕ). 4 ≤ length x) (sym (c.split_at-2.ensures.front ∙ ap (take c.args.page) c.split_at.ensures.back)) here.one.head

pub loop-init : goal.loop-init
loop-init c =
    let one = c.split_at-2.ensures.front ∙ ap (take c.args.page) c.split_at.ensures.back in
    record {
      on = subst (OnPage c.args.schema.now c.split_at-2.result.0.now c.args.start.row) (sym c.split_at-3.ensures.back)
          (subst (λ (x : List ℕ). OnPage c.args.schema.now x c.args.start.row (drop c.args.start.at x)) (sym one) (on_start c.args.schema.now c.args.page c.args.pages.now c.args.start c.requires.start));
    }

pub first_row-requires : goal.first_row-requires
first_row-requires c =
    let one : List ℕ = c.split_at-2.result.0.now in
    let lt : c.loop.counter < rows_counted one = omega (arith, c.loop-test.true, c.if-row-row_count.false, c.row_count.ensures) in
    run_starts c.args.schema.now (rows_counted one) c.loop.counter c.loop.left.now lt c.loop.invariant.on.run

pub loop-preserved : goal.loop-preserved
loop-preserved c =
    let one : List ℕ = c.split_at-2.result.0.now in
    let lt : c.loop.counter < rows_counted one = omega (arith, c.loop-test.true, c.if-row-row_count.false, c.row_count.ensures) in
    record {
      on = on_next c.args.schema.now one c.loop.counter c.loop.left.now c.first_row.result.0.now c.first_row.result.1.now lt c.loop.invariant.on c.first_row.ensures.row c.first_row.ensures.bytes;
    }

pub returns-in-Some : goal.returns-in-Some
returns-in-Some c =
    let one : List ℕ = c.split_at-2.result.0.now in
    let lt : c.args.row < rows_counted one = omega (arith, c.if-row-row_count.false, c.row_count.ensures) in
    let first : c.args.start.row ≤ c.args.row = omega (arith, c.if-row-first.false) in
    let at : c.loop.counter ≡ c.args.row = omega (arith, c.loop-test.false, c.loop.auto.counter-end first) in
    subst (IsStart c.args.schema.now c.args.page c.args.pages.now) (sym c.in-Some.ensures)
    (starts_here c.args.schema.now c.args.page c.args.pages.now one c.args.start.page c.args.row c.loop.left.now (c.split_at-2.ensures.front ∙ ap (take c.args.page) c.split_at.ensures.back) c.requires.start.there lt
    (subst (λ (n : ℕ). OnPage c.args.schema.now one n c.loop.left.now) at c.loop.invariant.on))
