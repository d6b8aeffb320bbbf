use Rattle.std.proofs.Common.{rules, ◌∙◌, ap, ◌++◌, [], ◌∷◌}
use Rattle.std.proofs.lemmas.Result.{err_from_is_err_and}
use Rattle.hera_csv.proofs.Spans.{rows_at-append, within_more, rows_at-push, within_push}
use Rattle.hera_csv.proofs.row_list.RowList.push.Goals as goal

pub invariant_of-self-in_err-push : goal.invariant_of-self-in_err-push
invariant_of-self-in_err-push c = rw (c.in_ok-extend_from_slice.ensures.items, c.in_err-push.ensures.items) (within_more c.self.inside.bytes.items c.args.row.now c.self.inside.spans.items c.self.invariant)

pub returns-in_err-push-clause-err : goal.returns-in_err-push-clause-err
returns-in_err-push-clause-err c =
    let p = err_from_is_err_and c.from_residual-in_err-push.result c.from_residual-in_err-push.ensures.1 in
    rw (p.1, c.in_ok-extend_from_slice.ensures.items, c.in_err-push.ensures.items) (rows_at-append _ _ _ c.self.invariant ∙ c.self.view_is)

pub invariant_of-self-2 : goal.invariant_of-self-2
invariant_of-self-2 c = rw (c.in_ok-extend_from_slice.ensures.items, c.in_ok-push.ensures.items) (within_push c.self.inside.bytes.items c.args.row.now c.self.inside.spans.items _ c.self.invariant (search rules) (search rules))

pub returns-clause-ok : goal.returns-clause-ok
returns-clause-ok c = rw (c.in_ok-extend_from_slice.ensures.items, c.in_ok-push.ensures.items) (rows_at-push _ _ _ _ c.self.invariant (search rules) (search rules) ∙ ap (λ t. t ++ c.args.row.now ∷ []) c.self.view_is)
