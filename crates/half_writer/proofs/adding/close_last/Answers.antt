use Rattle.std.proofs.Common.{◌≡◌, ◌≤◌, ◌++◌, ℕ, sym, ap, ◌∙◌, arith}
use Rattle.rel_format.specs.declared.version.TheConstants.{PAGE_TWO}
use Rattle.std.proofs.lemmas.Result.{err_from_is_err_and}
use Rattle.rel_format.specs.Pages.{page_bytes}
use Rattle.half_writer.proofs.Pagings.{last_bytes, last_count, last_full}
use Rattle.half_writer.proofs.adding.close_last.Goals as goal

pub returns-in_err-next-clause-full : goal.returns-in_err-next-clause-full
returns-in_err-next-clause-full c = λ t q.
    let p = err_from_is_err_and c.from_residual.result c.from_residual.ensures.1 in
    let some : 1 ≤ c.args.page.count = omega arith in
    rw (p.1, p.2) (last_full t c.args.bytes.now.items c.args.page c.args.head c.args.limit c.in_err-next.field-0.0 q some c.requires.room c.in_err-next.ensures.full)

pub returns-clause-pages : goal.returns-clause-pages
returns-clause-pages c = λ t same q.
    let some : 1 ≤ c.args.page.count = omega arith in
    let grown : c.turn.new.bytes.items ≡ c.args.bytes.now.items ++ page_bytes PAGE_TWO t.rel q.held = c.in_ok-next.ensures.page q.held q.count q.rows ∙ ap (λ (r : ℕ). c.args.bytes.now.items ++ page_bytes PAGE_TWO r q.held) (sym same) in
    last_bytes t c.args.bytes.now.items c.turn.new.bytes.items c.args.page q some c.args.page.fits grown

pub returns-clause-count : goal.returns-clause-count
returns-clause-count c = λ t q.
    let some : 1 ≤ c.args.page.count = omega arith in
    last_count t c.args.bytes.now.items c.args.page c.in_ok-next.next.before q some c.args.page.fits c.in_ok-next.ensures.before
