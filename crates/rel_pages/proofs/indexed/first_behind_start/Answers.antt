use Rattle.std.proofs.Common.{◌≡◌, ◌≤◌, ◌+◌, ◌-◌, ◌*◌, ◌/◌, ◌∙◌, List, ℕ, sym, ap, subst, length, take, drop, arith}
use Rattle.std.specs.List.{find}
use Rattle.std.specs.Option.{option_copied}
use Rattle.hera_sets.specs.Rows.{Row, IsAscending}
use Rattle.rel_pages.specs.Rels.{rows_from, rows_counted, pages_rows, passes, ArePagesOf}
use Rattle.rel_pages.specs.Starts.{rows_left, start_bytes}
use Rattle.rel_pages.proofs.Runs.{find_none, find_some}
use Rattle.rel_pages.proofs.Nears.{page_in}
use Rattle.rel_pages.proofs.Beginnings.{found_behind, behind_up}
use Rattle.rel_pages.proofs.indexed.first_behind_start.Goals as goal

pub row_count-requires : goal.row_count-requires
row_count-requires c =
    let here = page_in c.args.schema.now c.args.page (length c.args.pages.now / c.args.page) c.args.start.page c.args.pages.now c.requires.start.there c.requires.paged.pages in
    subst (λ (x : List ℕ). 4 ≤ length x) (sym (c.split_at-2.ensures.front ∙ ap (take c.args.page) c.split_at.ensures.back)) here.one.head

pub returns-in-Some : goal.returns-in-Some
returns-in-Some c =
    let p = passes c.args.bound in
    let one = c.split_at-2.ensures.front ∙ ap (take c.args.page) c.split_at.ensures.back in
    let left : List Row = rows_from c.args.schema.now (rows_left c.args.page c.args.pages.now c.args.start) (start_bytes c.args.page c.args.pages.now c.args.start) in
    let behind : List Row = pages_rows c.args.schema.now c.args.page (length c.args.pages.now / c.args.page - c.args.start.page - 1) (drop c.args.page (drop (c.args.start.page * c.args.page) c.args.pages.now)) in
    let same : rows_from c.args.schema.now (c.row_count.result - c.args.start.row) c.split_at-3.result.1.now ≡ left =
    (λ i. rows_from c.args.schema.now ((c.row_count.ensures ∙ ap rows_counted one) i - c.args.start.row) ((c.split_at-3.ensures.back ∙ ap (drop c.args.start.at) one) i)) in
    sym (found_behind c.args.schema.now c.args.page c.args.pages.now c.args.start c.args.bound c.requires.paged.pages c.requires.paged.ascending c.requires.start c.requires.before
    ∙ find_some p left behind c.in-Some.row.now (ap (find p) (sym same) ∙ sym c.first_of-near.ensures ∙ ap option_copied c.in-Some.is))

pub first_in_pages-requires-clause-pages : goal.first_in_pages-requires-clause-pages
first_in_pages-requires-clause-pages c =
    let here = page_in c.args.schema.now c.args.page (length c.args.pages.now / c.args.page) c.args.start.page c.args.pages.now c.requires.start.there c.requires.paged.pages in
    let count : length c.args.pages.now / c.args.page - c.args.start.page - 1 ≡ length c.args.pages.now / c.args.page - (c.args.start.page + 1) = omega arith in
    subst (λ (n : ℕ). ArePagesOf c.args.schema.now c.args.page n c.split_at-2.result.1.now) count
    (subst (ArePagesOf c.args.schema.now c.args.page (length c.args.pages.now / c.args.page - c.args.start.page - 1)) (sym (c.split_at-2.ensures.back ∙ ap (drop c.args.page) c.split_at.ensures.back)) here.more)

pub first_in_pages-requires-clause-ascending : goal.first_in_pages-requires-clause-ascending
first_in_pages-requires-clause-ascending c =
    let count : length c.args.pages.now / c.args.page - c.args.start.page - 1 ≡ length c.args.pages.now / c.args.page - (c.args.start.page + 1) = omega arith in
    subst (λ (n : ℕ). IsAscending (pages_rows c.args.schema.now c.args.page n c.split_at-2.result.1.now)) count
    (subst (λ (x : List ℕ). IsAscending (pages_rows c.args.schema.now c.args.page (length c.args.pages.now / c.args.page - c.args.start.page - 1) x)) (sym (c.split_at-2.ensures.back ∙ ap (drop c.args.page) c.split_at.ensures.back))
    (behind_up c.args.schema.now c.args.page c.args.pages.now c.args.start c.requires.paged.pages c.requires.paged.ascending c.requires.start))

pub returns : goal.returns
returns c =
    let p = passes c.args.bound in
    let one = c.split_at-2.ensures.front ∙ ap (take c.args.page) c.split_at.ensures.back in
    let left : List Row = rows_from c.args.schema.now (rows_left c.args.page c.args.pages.now c.args.start) (start_bytes c.args.page c.args.pages.now c.args.start) in
    let behind : List Row = pages_rows c.args.schema.now c.args.page (length c.args.pages.now / c.args.page - c.args.start.page - 1) (drop c.args.page (drop (c.args.start.page * c.args.page) c.args.pages.now)) in
    let same : rows_from c.args.schema.now (c.row_count.result - c.args.start.row) c.split_at-3.result.1.now ≡ left =
    (λ i. rows_from c.args.schema.now ((c.row_count.ensures ∙ ap rows_counted one) i - c.args.start.row) ((c.split_at-3.ensures.back ∙ ap (drop c.args.start.at) one) i)) in
    let count : length c.args.pages.now / c.args.page - (c.args.start.page + 1) ≡ length c.args.pages.now / c.args.page - c.args.start.page - 1 = omega arith in
    c.first_in_pages.ensures
    ∙ ap (λ (x : List ℕ). find p (pages_rows c.args.schema.now c.args.page (length c.args.pages.now / c.args.page - (c.args.start.page + 1)) x)) (c.split_at-2.ensures.back ∙ ap (drop c.args.page) c.split_at.ensures.back)
    ∙ ap (λ (n : ℕ). find p (pages_rows c.args.schema.now c.args.page n (drop c.args.page (drop (c.args.start.page * c.args.page) c.args.pages.now)))) count
    ∙ sym (find_none p left behind (ap (find p) (sym same) ∙ sym c.first_of-near.ensures ∙ ap option_copied c.in_default.is))
    ∙ sym (found_behind c.args.schema.now c.args.page c.args.pages.now c.args.start c.args.bound c.requires.paged.pages c.requires.paged.ascending c.requires.start c.requires.before)
