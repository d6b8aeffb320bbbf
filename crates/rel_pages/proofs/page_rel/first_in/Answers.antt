use Rattle.std.proofs.Common.{◌-◌, ◌/◌, ◌*◌, List, ℕ, sym, ap, subst, ◌∙◌, length, drop}
use Rattle.std.specs.List.{find}
use Rattle.hera_sets.specs.Rows.{IsAscending}
use Rattle.rel_pages.specs.Rels.{passes, pages_rows, ArePagesOf}
use Rattle.rel_pages.proofs.Runs.{find_none}
use Rattle.rel_pages.proofs.Searches.{pages_from, ascending_back}
use Rattle.rel_pages.proofs.page_rel.first_in.Goals as goal

pub first_in_pages-requires-clause-pages : goal.first_in_pages-requires-clause-pages
first_in_pages-requires-clause-pages c =
    let count = length c.args.pages.now / c.args.page in
    subst (ArePagesOf c.args.schema.now c.args.page (count - c.pages_before-before.result)) (sym c.split_at.ensures.back)
    (pages_from c.args.schema.now c.args.page count c.pages_before-before.result c.args.pages.now c.pages_before-before.ensures.within c.requires.pages).pages

pub first_in_pages-requires-clause-ascending : goal.first_in_pages-requires-clause-ascending
first_in_pages-requires-clause-ascending c =
    let count = length c.args.pages.now / c.args.page in
    let before = c.pages_before-before.result in
    let from = pages_from c.args.schema.now c.args.page count before c.args.pages.now c.pages_before-before.ensures.within c.requires.pages in
    subst (λ (x : List ℕ). IsAscending (pages_rows c.args.schema.now c.args.page (count - before) x)) (sym c.split_at.ensures.back)
    (ascending_back (pages_rows c.args.schema.now c.args.page before c.args.pages.now) (pages_rows c.args.schema.now c.args.page (count - before) (drop (before * c.args.page) c.args.pages.now)) (subst IsAscending from.rows c.requires.ascending))

pub returns : goal.returns
returns c =
    let count = length c.args.pages.now / c.args.page in
    let from = pages_from c.args.schema.now c.args.page count c.pages_before-before.result c.args.pages.now c.pages_before-before.ensures.within c.requires.pages in
    let p = passes c.args.bound in
    c.first_in_pages.ensures ∙ ap (λ (x : List ℕ). find p (pages_rows c.args.schema.now c.args.page (count - c.pages_before-before.result) x)) c.split_at.ensures.back
    ∙ sym (find_none p (pages_rows c.args.schema.now c.args.page c.pages_before-before.result c.args.pages.now) (pages_rows c.args.schema.now c.args.page (count - c.pages_before-before.result) (drop (c.pages_before-before.result * c.args.page) c.args.pages.now)) c.pages_before-before.ensures.none)
    ∙ ap (find p) (sym from.rows)
