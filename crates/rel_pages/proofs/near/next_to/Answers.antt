use Rattle.std.proofs.Common.{◌≡◌, ◌<◌, ◌≤◌, ◌-◌, ◌/◌, ◌*◌, ◌∙◌, List, ℕ, sym, ap, subst, length, take, drop, arith}
use Rattle.std.specs.Prelude.{IfSome}
use Rattle.std.specs.List.{find}
use Rattle.std.specs.Option.{option_copied}
use Rattle.rel_pages.specs.Rels.{rows_counted, rows_from, pages_rows, passes, IsRun, ArePagesOf}
use Rattle.rel_pages.proofs.Nears.{page_in, in_page, first_page, behind_page}
use Rattle.rel_pages.proofs.near.next_to.Goals as goal

pub split_at-requires-3 : goal.split_at-requires-3
split_at-requires-3 c =
    let lt : c.args.place.page < length c.args.pages.now / c.args.page = omega (arith, c.if-place-count.false) in
    let here = page_in c.args.schema.now c.args.page (length c.args.pages.now / c.args.page) c.args.place.page c.args.pages.now lt c.requires.pages.pages in
    subst (λ (x : List ℕ). 4 ≤ length x) (sym (c.split_at-2.ensures.front ∙ ap (take c.args.page) c.split_at.ensures.back)) here.one.head

pub look_at-requires-clause-run : goal.look_at-requires-clause-run
look_at-requires-clause-run c =
    let lt : c.args.place.page < length c.args.pages.now / c.args.page = omega (arith, c.if-place-count.false) in
    let here = page_in c.args.schema.now c.args.page (length c.args.pages.now / c.args.page) c.args.place.page c.args.pages.now lt c.requires.pages.pages in
    let one = c.split_at-2.ensures.front ∙ ap (take c.args.page) c.split_at.ensures.back in
    subst (λ (n : ℕ). IsRun c.args.schema.now n c.split_at-3.result.1.now) (sym (c.row_count.ensures ∙ ap rows_counted one))
    (subst (IsRun c.args.schema.now (rows_counted (take c.args.page (drop (c.args.place.page * c.args.page) c.args.pages.now)))) (sym (c.split_at-3.ensures.back ∙ ap (drop 4) one)) here.one.run)

pub look_at-requires-clause-some : goal.look_at-requires-clause-some
look_at-requires-clause-some c =
    let lt : c.args.place.page < length c.args.pages.now / c.args.page = omega (arith, c.if-place-count.false) in
    let here = page_in c.args.schema.now c.args.page (length c.args.pages.now / c.args.page) c.args.place.page c.args.pages.now lt c.requires.pages.pages in
    let one = c.split_at-2.ensures.front ∙ ap (take c.args.page) c.split_at.ensures.back in
    subst (λ (n : ℕ). 1 ≤ n) (sym (c.row_count.ensures ∙ ap rows_counted one)) here.one.some

pub first_behind-requires-clause-pages : goal.first_behind-requires-clause-pages
first_behind-requires-clause-pages c =
    let lt : c.args.place.page < length c.args.pages.now / c.args.page = omega (arith, c.if-place-count.false) in
    let here = page_in c.args.schema.now c.args.page (length c.args.pages.now / c.args.page) c.args.place.page c.args.pages.now lt c.requires.pages.pages in
    subst (ArePagesOf c.args.schema.now c.args.page (length c.args.pages.now / c.args.page - c.args.place.page - 1)) (sym (c.split_at-2.ensures.back ∙ ap (drop c.args.page) c.split_at.ensures.back)) here.more

pub returns-in-Found : goal.returns-in-Found
returns-in-Found c =
    let lt : c.args.place.page < length c.args.pages.now / c.args.page = omega (arith, c.if-place-count.false) in
    let one = c.split_at-2.ensures.front ∙ ap (take c.args.page) c.split_at.ensures.back in
    in_page c.args.schema.now c.args.page (length c.args.pages.now / c.args.page) c.args.place.page c.args.pages.now c.args.bound (rows_from c.args.schema.now c.row_count.result c.split_at-3.result.1.now) c.in-Found.found.now
    (λ i. rows_from c.args.schema.now ((c.row_count.ensures ∙ ap rows_counted one) i) ((c.split_at-3.ensures.back ∙ ap (drop 4) one) i))
    lt c.requires.pages.pages c.requires.pages.ascending c.in-Found.ensures

pub returns-in-First : goal.returns-in-First
returns-in-First c =
    let lt : c.args.place.page < length c.args.pages.now / c.args.page = omega (arith, c.if-place-count.false) in
    let one = c.split_at-2.ensures.front ∙ ap (take c.args.page) c.split_at.ensures.back in
    first_page c.args.schema.now c.args.page (length c.args.pages.now / c.args.page) c.args.place.page c.args.pages.now c.args.bound (rows_from c.args.schema.now c.row_count.result c.split_at-3.result.1.now) c.in-First.found.now
    (λ i. rows_from c.args.schema.now ((c.row_count.ensures ∙ ap rows_counted one) i) ((c.split_at-3.ensures.back ∙ ap (drop 4) one) i))
    c.if-place-eq0.true lt c.requires.pages.pages c.in-First.ensures

pub returns-in-Behind : goal.returns-in-Behind
returns-in-Behind c =
    let lt : c.args.place.page < length c.args.pages.now / c.args.page = omega (arith, c.if-place-count.false) in
    let one = c.split_at-2.ensures.front ∙ ap (take c.args.page) c.split_at.ensures.back in
    let p = passes c.args.bound in
    let left : ℕ = length c.args.pages.now / c.args.page - c.args.place.page - 1 in
    let all = behind_page c.args.schema.now c.args.page (length c.args.pages.now / c.args.page) c.args.place.page c.args.pages.now c.args.bound (rows_from c.args.schema.now c.row_count.result c.split_at-3.result.1.now)
    (λ i. rows_from c.args.schema.now ((c.row_count.ensures ∙ ap rows_counted one) i) ((c.split_at-3.ensures.back ∙ ap (drop 4) one) i))
    lt c.requires.pages.pages c.requires.pages.ascending c.in-Behind.ensures in
    subst (λ o. IfSome c.first_behind.result (λ near. option_copied near.row ≡ o)) (ap (λ (x : List ℕ). find p (pages_rows c.args.schema.now c.args.page left x)) (c.split_at-2.ensures.back ∙ ap (drop c.args.page) c.split_at.ensures.back) ∙ all) c.first_behind.ensures
