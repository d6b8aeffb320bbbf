use Rattle.std.proofs.Common.{refl}
use Rattle.hera_outcome.specs.Passages.{passage}
use Rattle.hera_run.specs.Opening.{IsUnready}
use Rattle.hera_run.proofs.Readied.{ready_as_opened, rewritten_ready, unwritten_unready, unready_unopened}
use Rattle.hera_run.proofs.Results.{err_is}
use Rattle.hera_run.proofs.opening.open_for.Goals as goal

pub returns-then-is_to_rewrite-clause-ready : goal.returns-then-is_to_rewrite-clause-ready
returns-then-is_to_rewrite-clause-ready g c =
    rewritten_ready g.W.Output g.W.Outside c.args.outside.now c.open_folder.new.outside c.in_ok-store.store c.in_ok-store.ensures.opened c.args.own.now (c.if-is_to_rewrite.ensures.old refl) (c.if-is_to_rewrite.ensures.has refl) c.rewrite.new.outside c.rewrite.result c.rewrite.ensures.rewritten

pub returns-then-is_to_rewrite-clause-unready : goal.returns-then-is_to_rewrite-clause-unready
returns-then-is_to_rewrite-clause-unready g c =
    unwritten_unready g.W.Output g.W.Outside c.args.outside.now c.open_folder.new.outside c.in_ok-store.store c.in_ok-store.ensures.opened c.args.own.now (c.if-is_to_rewrite.ensures.old refl) (c.if-is_to_rewrite.ensures.has refl) c.rewrite.new.outside c.rewrite.result c.rewrite.ensures.unwritten

pub returns-else-is_to_rewrite-clause-ready : goal.returns-else-is_to_rewrite-clause-ready
returns-else-is_to_rewrite-clause-ready g c = ready_as_opened g.W.Output g.W.Outside c.args.outside.now c.open_folder.new.outside c.in_ok-store.store c.in_ok-store.ensures.opened c.args.own.now (c.if-is_to_rewrite.ensures.new refl)

pub returns-in_err-store-clause-unready : goal.returns-in_err-store-clause-unready
returns-in_err-store-clause-unready g c =
    let v = passage g.W.Output g.W.Outside c.args.outside.now c.open_folder.new.outside in
    let stop = c.in_err-store.field-0.0 in
    err_is (λ stop. IsUnready c.args.own.now stop v) c.from_residual.result stop c.from_residual.ensures.1
    (unready_unopened g.W.Output g.W.Outside c.args.outside.now c.open_folder.new.outside c.args.own.now stop c.in_err-store.ensures.unopened)
