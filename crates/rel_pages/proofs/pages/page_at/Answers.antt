use Rattle.std.proofs.Common.{◌+◌, ℕ, suc, List, refl, sym, ap, ◌∙◌, length-drop, arith}
use Rattle.std.specs.Option.{option_map}
use Rattle.std.proofs.lemmas.Result.{err_from_is_err_and}
use Rattle.hera_sets.specs.Rows.{Row}
use Rattle.hera_meaning.specs.declared.schemas.RelDecl.{RelDecl}
use Rattle.hera_meaning.specs.Deltas.{schema_of}
use Rattle.rel_format.specs.Table.{at_page, behind_row, page_before}
use Rattle.rel_pages.specs.Reading.{told, RowsTo, PageTo}
use Rattle.rel_pages.specs.declared.fields.PageEnd.{PageEnd as CodeEnd}
use Rattle.rel_pages.proofs.PageSteps.{schema_here, no_page_rel, to_row_count, no_row_count, head_read, opened, fault_found, no_fill, page_read}
use Rattle.rel_pages.proofs.pages.page_at.Goals as goal

pub returns-in_default-clause-read : goal.returns-in_default-clause-read
returns-in_default-clause-read c =
    rw c.damaged.ensures
    (λ f b left p h g r. no_page_rel f c.args.bytes.now c.args.at b left c.args.rels.now (option_map told c.args.last) h g (rw c.len.ensures.count at c.in_default.ensures.value) r)

pub returns-in_default-row_count_at-clause-read : goal.returns-in_default-row_count_at-clause-read
returns-in_default-row_count_at-clause-read c =
    rw c.damaged-in_default-row_count_at.ensures
    (λ f b left p h g r. no_row_count f c.args.bytes.now (c.args.at + 2) b left c.in-Some.rel c.in_default-row_count_at.ensures.value
    (to_row_count f c.args.bytes.now c.args.at b left c.args.rels.now (option_map told c.args.last) c.in-Some.rel h g (rw c.len.ensures.count at c.in-Some.ensures.value) r))

pub returns-in_err-used-clause-read : goal.returns-in_err-used-clause-read
returns-in_err-used-clause-read c =
    let q = err_from_is_err_and c.from_residual.result c.from_residual.ensures.1 in
    rw (q.1, q.2)
    (λ f b left p h g. fault_found {A = ℕ × Row} {B = CodeEnd} f c.args.bytes.now c.args.at (c.args.at + 4) (at_page b (suc left)) (behind_row b left (opened c.in-Some.rel) c.in-Some-row_count_at.count)
    (λ x. RowsTo b left c.in-Some.rel x 0) (PageTo b left) c.in_err-used.field-0.0
    (head_read f c.args.bytes.now c.args.at b left c.args.rels.now (option_map told c.args.last) c.in-Some.rel c.in-Some-row_count_at.count h g (rw c.len.ensures.count at c.in-Some.ensures.value) c.in-Some-row_count_at.ensures.value)
    (c.in_err-used.ensures.read f b left c.in-Some.rel p (ap (λ (rs : List RelDecl). schema_of rs c.in-Some.rel) h ∙ schema_here c.args.rels.now c.in-Some.rel c.decl.result.now c.decl.ensures.decl) (ap (λ o. page_before o c.in-Some.rel) g ∙ sym c.page_before.ensures)))

pub returns-then-not-fill_at-clause-read : goal.returns-then-not-fill_at-clause-read
returns-then-not-fill_at-clause-read c =
    rw c.damaged-then-not-fill_at.ensures
    (λ f b left p h g r. no_fill f c.args.bytes.now c.in_ok-used.behind b left c.in-Some.rel c.args.page c.in_ok-used.used c.in_ok-used.row.now p (c.if-not-fill_at.ensures.other refl)
    (c.in_ok-used.ensures.read f b left c.in-Some.rel p (ap (λ (rs : List RelDecl). schema_of rs c.in-Some.rel) h ∙ schema_here c.args.rels.now c.in-Some.rel c.decl.result.now c.decl.ensures.decl) (ap (λ o. page_before o c.in-Some.rel) g ∙ sym c.page_before.ensures)
    (head_read f c.args.bytes.now c.args.at b left c.args.rels.now (option_map told c.args.last) c.in-Some.rel c.in-Some-row_count_at.count h g (rw c.len.ensures.count at c.in-Some.ensures.value) c.in-Some-row_count_at.ensures.value r)))

pub returns-clause-read : goal.returns-clause-read
returns-clause-read c = λ f b left p h g r.
    page_read f c.args.bytes.now c.in_ok-used.behind b left c.args.page (record { rel = c.in-Some.rel; used = c.in_ok-used.used; row = c.in_ok-used.row }) p (c.if-not-fill_at.ensures.value refl)
    (omega (arith, c.if-not-fill_at.ensures.within refl, length-drop c.in_ok-used.behind c.args.bytes.now, c.in_ok-used.ensures.within))
    (c.in_ok-used.ensures.read f b left c.in-Some.rel p (ap (λ (rs : List RelDecl). schema_of rs c.in-Some.rel) h ∙ schema_here c.args.rels.now c.in-Some.rel c.decl.result.now c.decl.ensures.decl) (ap (λ o. page_before o c.in-Some.rel) g ∙ sym c.page_before.ensures)
    (head_read f c.args.bytes.now c.args.at b left c.args.rels.now (option_map told c.args.last) c.in-Some.rel c.in-Some-row_count_at.count h g (rw c.len.ensures.count at c.in-Some.ensures.value) c.in-Some-row_count_at.ensures.value r))
