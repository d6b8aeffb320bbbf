use Rattle.std.proofs.Common.{ℕ, List, Result, Err, ap, subst}
use Rattle.hera_store.specs.Standing.{database_of}
use Rattle.hera_outcome.specs.declared.answer.Ending.{Ending}
use Rattle.hera_outcome.specs.declared.answer.Stop.{Stop}
use Rattle.hera_outcome.specs.Answers.{number_of}
use Rattle.hera_outcome.specs.Passages.{passage}
use Rattle.hera_outcome.specs.Told.{Says, IsToldBehind}
use Rattle.hera_outcome.proofs.Passing.{handed_on}
use Rattle.hera_run.specs.Folder.{outcome_from}
use Rattle.hera_run.proofs.Read.{read_cut}
use Rattle.hera_transfer.specs.Transfers.{stored_and_told}
use Rattle.hera_transfer.proofs.Storing.{stopped_told, stored_told}
use Rattle.hera_transfer.proofs.adding.store_and_tell.Goals as goal

pub returns-clause-told : goal.returns-clause-told
returns-clause-told g c =
    stored_told c.args.store c.args.planned.delta c.args.planned.line g.W.Output g.W.Outside c.args.outside.now c.keep_in.new.outside c.requires.opens.stands
    (λ events e t run. read_cut g.W.Output g.W.Outside g.met.W.Outside.as_read g.met.W.Outside.only_now g.met.W.Outside.counts_now c.args.outside.now e c.args.store events t (c.requires.opens.stands t) run)
    c.keep_in.ensures.said c.keep_in.ensures.any_moment c.keep_in.new.store c.in_ok-keep_in.ensures.stands c.keep_in.ensures.base c.in_ok-keep_in.ensures.commits c.in_ok-keep_in.ensures.fits c.in_ok-keep_in.ensures.faults c.tell.new.outside c.tell.result
    (subst (λ (l : List ℕ). Says l c.tell.result (passage g.W.Output g.W.Outside c.keep_in.new.outside c.tell.new.outside)) c.bytes.ensures c.tell.ensures.said) c.tell.ensures.done

pub returns-in_err-keep_in-clause-told : goal.returns-in_err-keep_in-clause-told
returns-in_err-keep_in-clause-told g c =
    let stop = c.in_err-keep_in.field-0.0 in
    let v = passage g.W.Output g.W.Outside c.args.outside.now c.keep_in.new.outside in
    let db = database_of c.args.store in
    handed_on (λ (r : Result Ending Stop). IsToldBehind (outcome_from db c.args.store.end (stored_and_told db.state c.args.planned.delta c.args.planned.line)) (number_of r) v) c.from_residual.result stop c.from_residual.ensures.1
    (stopped_told c.args.store c.args.planned.delta c.args.planned.line g.W.Output g.W.Outside c.args.outside.now c.keep_in.new.outside c.requires.opens.stands
    (λ events e t run. read_cut g.W.Output g.W.Outside g.met.W.Outside.as_read g.met.W.Outside.only_now g.met.W.Outside.counts_now c.args.outside.now e c.args.store events t (c.requires.opens.stands t) run)
    c.keep_in.ensures.said c.keep_in.ensures.any_moment stop c.in_err-keep_in.ensures.faults (λ is. c.in_err-keep_in.ensures.full (ap Err is)) c.keep_in.ensures.nothing_done)
