use Rattle.std.proofs.Common.{◌≡◌, ◌≤◌, ◌*◌, ◌∙◌, ℕ, List, true, sym, ap, subst, length, take, drop, arith}
use Rattle.std.specs.Prelude.{is_some}
use Rattle.hera_row.specs.Reading.{row_len_of}
use Rattle.rel_pages.specs.Rels.{rows_counted}
use Rattle.rel_pages.proofs.Searches.{page_here, run_leads}
use Rattle.rel_pages.proofs.page_rel.leading_at.Goals as goal

pub overflow_mul-number : goal.overflow_mul-number
overflow_mul-number c = let here = page_here c.args.schema.now c.args.page c.args.count c.args.number c.args.pages.now c.requires.within c.requires.pages in omega (arith, here.within)

pub split_at-requires : goal.split_at-requires
split_at-requires c = (page_here c.args.schema.now c.args.page c.args.count c.args.number c.args.pages.now c.requires.within c.requires.pages).within

pub split_at-requires-2 : goal.split_at-requires-2
split_at-requires-2 c =
    subst (λ (x : List ℕ). c.args.page ≤ length x) (sym c.split_at.ensures.back) (page_here c.args.schema.now c.args.page c.args.count c.args.number c.args.pages.now c.requires.within c.requires.pages).fits

pub split_at-requires-3 : goal.split_at-requires-3
split_at-requires-3 c =
    subst (λ (x : List ℕ). 4 ≤ length x) (sym (c.split_at-2.ensures.front ∙ ap (take c.args.page) c.split_at.ensures.back))
    (page_here c.args.schema.now c.args.page c.args.count c.args.number c.args.pages.now c.requires.within c.requires.pages).one.head

pub first_row-requires : goal.first_row-requires
first_row-requires c =
    let one = (page_here c.args.schema.now c.args.page c.args.count c.args.number c.args.pages.now c.requires.within c.requires.pages).one in
    subst (λ (x : List ℕ). is_some (row_len_of c.args.schema.now x) ≡ true) (sym (c.split_at-3.ensures.back ∙ ap (drop 4) (c.split_at-2.ensures.front ∙ ap (take c.args.page) c.split_at.ensures.back)))
    (run_leads c.args.schema.now (rows_counted (take c.args.page (drop (c.args.number * c.args.page) c.args.pages.now))) (drop 4 (take c.args.page (drop (c.args.number * c.args.page) c.args.pages.now))) one.some one.run)
