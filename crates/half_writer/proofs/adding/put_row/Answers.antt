use Rattle.std.proofs.Common.{◌≡◌, ◌<◌, ◌+◌, ◌++◌, ◌∷◌, ℕ, length, sym, ap, ◌∙◌, arith}
use Rattle.rel_format.specs.declared.version.TheConstants.{PAGE_TWO}
use Rattle.std.proofs.lemmas.Result.{err_from_is_err_and, IfOk-weaker}
use Rattle.rel_format.specs.Pages.{page_bytes}
use Rattle.half_writer.specs.Paging.{IsPaging, IsPut}
use Rattle.half_writer.proofs.Pagings.{stays, turns, next_full}
use Rattle.half_writer.proofs.adding.put_row.Goals as goal

pub returns-then-len-row-le-PAGE_TWO-clause-paging : goal.returns-then-len-row-le-PAGE_TWO-clause-paging
returns-then-len-row-le-PAGE_TWO-clause-paging c = λ t rest same q.
    IfOk-weaker c.put.result (IsPut c.args.page c.args.row.now) (λ next. IsPaging t rest c.args.bytes.now.items next)
    (λ next put. stays t c.args.row.now rest c.args.bytes.now.items c.args.page next q put) c.put.ensures.put

pub returns-in_err-next-clause-full : goal.returns-in_err-next-clause-full
returns-in_err-next-clause-full c = λ t rest q.
    let p = err_from_is_err_and c.from_residual.result c.from_residual.ensures.1 in
    rw (p.1, p.2) (next_full t c.args.row.now rest c.args.bytes.now.items c.args.page c.args.head c.args.limit c.in_err-next.field-0.0 q c.requires.room c.in_err-next.ensures.full)

pub returns-clause-paging : goal.returns-clause-paging
returns-clause-paging c = λ t rest same q.
    let bytes = c.args.bytes.now.items in
    let new = c.turn.new.bytes.items in
    let row = c.args.row.now in
    let grown : new ≡ bytes ++ page_bytes PAGE_TWO t.rel q.held = c.in_ok-next.ensures.page q.held q.count q.rows ∙ ap (λ (r : ℕ). bytes ++ page_bytes PAGE_TWO r q.held) (sym same) in
    let over : PAGE_TWO < 4 + length c.args.page.rows.items + length row = omega arith in
    let turned : IsPaging t (row ∷ rest) new c.in_ok-next.next =
    turns t row rest bytes new c.args.page c.in_ok-next.next q c.requires.short c.args.page.fits over grown c.in_ok-next.ensures.length c.in_ok-next.ensures.rows c.in_ok-next.ensures.count c.in_ok-next.ensures.before
    in
    IfOk-weaker c.put-2.result (IsPut c.in_ok-next.next row) (λ next. IsPaging t rest new next) (λ next put. stays t row rest new c.in_ok-next.next next turned put) c.put-2.ensures.put
