use Rattle.std.proofs.Common.{◌≡◌, ◌≤◌, ◌-◌, ◌+◌, List, ℕ, sym, subst, length, arith}
use Rattle.rel_pages.specs.Rels.{rows_counted, pages_rows, ArePagesOf}
use Rattle.rel_pages.proofs.Runs.{page_first}
use Rattle.rel_pages.proofs.Counts.{pages_fit, page_counted}
use Rattle.rel_pages.proofs.page_rel.count_in_pages.Goals as goal

pub row_count-rows-requires : goal.row_count-rows-requires
row_count-rows-requires c =
    let first = page_first c.args.schema.now c.args.page c.args.count c.loop.counter c.loop.rest.now c.loop-test.true c.loop.invariant.pages in
    subst (λ (x : List ℕ). 4 ≤ length x) (sym c.split_at.ensures.front) first.one.head

counted : (c : goal.After-row_count-rows) → (c.loop.rows + rows_counted c.split_at.result.0.now) + length (pages_rows c.args.schema.now c.args.page (c.args.count - (c.loop.counter + 1)) c.split_at.result.1.now) ≡ length (pages_rows c.args.schema.now c.args.page c.args.count c.args.pages.now)
counted c = page_counted c.args.schema.now c.args.page c.args.count c.loop.counter c.loop.rows _ c.loop.rest.now _ _ c.loop-test.true c.loop.invariant.pages c.split_at.ensures.front c.split_at.ensures.back c.loop.invariant.sum

pub overflow_add-rows : goal.overflow_add-rows
overflow_add-rows c =
    let few = pages_fit c.args.schema.now c.args.page c.args.count c.args.pages.now c.len-attributes.ensures.valid.some c.requires in
    let sum = counted c in
    let here = c.row_count-rows.ensures in
    omega (arith, few, sum, here)

pub loop-preserved : goal.loop-preserved
loop-preserved c =
    let first = page_first c.args.schema.now c.args.page c.args.count c.loop.counter c.loop.rest.now c.loop-test.true c.loop.invariant.pages in
    record {
      pages = subst (ArePagesOf c.args.schema.now c.args.page (c.args.count - (c.loop.counter + 1))) (sym c.split_at.ensures.back) first.more;
      sum = let here = c.row_count-rows.ensures in let sum = counted c in omega (arith, here, sum);
    }
