use Rattle.std.proofs.Common.{◌-◌, ◌+◌, List, ℕ, sym, ap, ◌∙◌, take, subst}
use Rattle.std.specs.List.{find}
use Rattle.std.specs.Option.{option_copied}
use Rattle.rel_pages.specs.Rels.{passes}
use Rattle.rel_pages.specs.Rels.{IsPage, ArePagesOf, page_rows, pages_rows}
use Rattle.hera_sets.specs.Rows.{IsAscending}
use Rattle.hera_sets.proofs.Lists.{ascending_front}
use Rattle.rel_pages.proofs.Searches.{ascending_back}
use Rattle.rel_pages.proofs.Runs.{page_first, find_none, find_some}
use Rattle.rel_pages.proofs.page_rel.first_in_pages.Goals as goal

pub first_in_page-near-requires-clause-page : goal.first_in_page-near-requires-clause-page
first_in_page-near-requires-clause-page c =
    let first = page_first c.args.schema.now c.args.page c.args.count c.loop-number.number c.loop-number.left.now c.loop-number-test.true c.loop-number.invariant.pages in
    subst (IsPage c.args.schema.now) (sym c.split_at.ensures.front) first.one

pub first_in_page-near-requires-clause-ascending : goal.first_in_page-near-requires-clause-ascending
first_in_page-near-requires-clause-ascending c =
    let first = page_first c.args.schema.now c.args.page c.args.count c.loop-number.number c.loop-number.left.now c.loop-number-test.true c.loop-number.invariant.pages in
    subst (λ (x : List ℕ). IsAscending (page_rows c.args.schema.now x)) (sym c.split_at.ensures.front)
    (ascending_front (page_rows c.args.schema.now (take c.args.page c.loop-number.left.now)) _ (subst IsAscending first.rows c.loop-number.invariant.ascending))

pub returns-in-Some : goal.returns-in-Some
returns-in-Some c =
    let p = passes c.args.bound in
    let first = page_first c.args.schema.now c.args.page c.args.count c.loop-number.number c.loop-number.left.now c.loop-number-test.true c.loop-number.invariant.pages in
    sym (c.loop-number.invariant.next ∙ ap (find p) first.rows
    ∙ find_some p (page_rows c.args.schema.now (take c.args.page c.loop-number.left.now)) _ c.in-Some.row.now (ap (λ (x : List ℕ). find p (page_rows c.args.schema.now x)) (sym c.split_at.ensures.front) ∙ sym c.first_in_page-near.ensures ∙ ap option_copied c.in-Some.is))

pub loop-number-preserved : goal.loop-number-preserved
loop-number-preserved c =
    let p = passes c.args.bound in
    let first = page_first c.args.schema.now c.args.page c.args.count c.loop-number.number c.loop-number.left.now c.loop-number-test.true c.loop-number.invariant.pages in
    record {
      pages = subst (ArePagesOf c.args.schema.now c.args.page (c.args.count - (c.loop-number.number + 1))) (sym c.split_at.ensures.back) first.more;
      ascending = subst (λ (x : List ℕ). IsAscending (pages_rows c.args.schema.now c.args.page (c.args.count - (c.loop-number.number + 1)) x)) (sym c.split_at.ensures.back)
          (ascending_back (page_rows c.args.schema.now (take c.args.page c.loop-number.left.now)) _ (subst IsAscending first.rows c.loop-number.invariant.ascending));
      next = c.loop-number.invariant.next ∙ ap (find p) first.rows
          ∙ find_none p (page_rows c.args.schema.now (take c.args.page c.loop-number.left.now)) _ (ap (λ (x : List ℕ). find p (page_rows c.args.schema.now x)) (sym c.split_at.ensures.front) ∙ sym c.first_in_page-near.ensures ∙ ap option_copied c.in_default.is)
          ∙ ap (λ (x : List ℕ). find p (pages_rows c.args.schema.now c.args.page (c.args.count - (c.loop-number.number + 1)) x)) (sym c.split_at.ensures.back);
    }
