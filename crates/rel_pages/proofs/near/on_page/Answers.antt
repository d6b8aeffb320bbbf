use Rattle.std.proofs.Common.{◌≡◌, ◌<◌, ◌-◌, ◌/◌, ◌∙◌, List, ℕ, sym, ap, subst, length, take, drop, arith}
use Rattle.std.specs.Prelude.{IfSome}
use Rattle.std.specs.List.{find}
use Rattle.std.specs.Option.{option_copied}
use Rattle.hera_sets.specs.Rows.{IsAscending}
use Rattle.rel_pages.specs.Rels.{page_rows, pages_rows, passes, IsPage, ArePagesOf}
use Rattle.rel_pages.proofs.Nears.{page_in, page_ascending, page_found, page_left}
use Rattle.rel_pages.proofs.near.on_page.Goals as goal

pub first_in_page-near-requires-clause-page : goal.first_in_page-near-requires-clause-page
first_in_page-near-requires-clause-page c =
    let lt : c.args.number < length c.args.pages.now / c.args.page = omega (arith, c.if-number-count.false) in
    let here = page_in c.args.schema.now c.args.page (length c.args.pages.now / c.args.page) c.args.number c.args.pages.now lt c.requires.pages in
    subst (IsPage c.args.schema.now) (sym (c.split_at-2.ensures.front ∙ ap (take c.args.page) c.split_at.ensures.back)) here.one

pub first_in_page-near-requires-clause-ascending : goal.first_in_page-near-requires-clause-ascending
first_in_page-near-requires-clause-ascending c =
    let lt : c.args.number < length c.args.pages.now / c.args.page = omega (arith, c.if-number-count.false) in
    subst (λ (x : List ℕ). IsAscending (page_rows c.args.schema.now x)) (sym (c.split_at-2.ensures.front ∙ ap (take c.args.page) c.split_at.ensures.back))
    (page_ascending c.args.schema.now c.args.page (length c.args.pages.now / c.args.page) c.args.number c.args.pages.now lt c.requires.pages c.requires.ascending)

pub returns-in-Some : goal.returns-in-Some
returns-in-Some c =
    let p = passes c.args.bound in
    let lt : c.args.number < length c.args.pages.now / c.args.page = omega (arith, c.if-number-count.false) in
    let one = c.split_at-2.ensures.front ∙ ap (take c.args.page) c.split_at.ensures.back in
    page_found c.args.schema.now c.args.page (length c.args.pages.now / c.args.page) c.args.number c.args.pages.now c.args.bound c.in-Some.row.now lt c.requires.pages (c.leads.ensures c.if-not-leads.false)
    (ap (λ (x : List ℕ). find p (page_rows c.args.schema.now x)) (sym one) ∙ sym c.first_in_page-near.ensures ∙ ap option_copied c.in-Some.is)

pub first_behind-requires-clause-pages : goal.first_behind-requires-clause-pages
first_behind-requires-clause-pages c =
    let lt : c.args.number < length c.args.pages.now / c.args.page = omega (arith, c.if-number-count.false) in
    let here = page_in c.args.schema.now c.args.page (length c.args.pages.now / c.args.page) c.args.number c.args.pages.now lt c.requires.pages in
    subst (ArePagesOf c.args.schema.now c.args.page (length c.args.pages.now / c.args.page - c.args.number - 1)) (sym (c.split_at-2.ensures.back ∙ ap (drop c.args.page) c.split_at.ensures.back)) here.more

pub returns : goal.returns
returns c =
    let p = passes c.args.bound in
    let lt : c.args.number < length c.args.pages.now / c.args.page = omega (arith, c.if-number-count.false) in
    let one = c.split_at-2.ensures.front ∙ ap (take c.args.page) c.split_at.ensures.back in
    let left : ℕ = length c.args.pages.now / c.args.page - c.args.number - 1 in
    let all = page_left c.args.schema.now c.args.page (length c.args.pages.now / c.args.page) c.args.number c.args.pages.now c.args.bound lt c.requires.pages (c.leads.ensures c.if-not-leads.false)
    (ap (λ (x : List ℕ). find p (page_rows c.args.schema.now x)) (sym one) ∙ sym c.first_in_page-near.ensures ∙ ap option_copied c.in_default.is) in
    subst (λ o. IfSome c.first_behind.result (λ near. option_copied near.row ≡ o)) (ap (λ (x : List ℕ). find p (pages_rows c.args.schema.now c.args.page left x)) (c.split_at-2.ensures.back ∙ ap (drop c.args.page) c.split_at.ensures.back) ∙ all) c.first_behind.ensures
