use Rattle.std.proofs.Common.{◌∙◌, Result, Err, ap, sym, subst}
use Rattle.rel_format.specs.Journal.{half_limit}
use Rattle.hera_store.specs.Standing.{database_of}
use Rattle.hera_store.specs.Faults.{IsCheckRefusal}
use Rattle.hera_store.specs.declared.faults.CheckFault.{CheckFault}
use Rattle.hera_outcome.specs.declared.answer.Ending.{Ending}
use Rattle.hera_outcome.specs.declared.answer.Stop.{Stop}
use Rattle.hera_outcome.specs.Passages.{passage, start}
use Rattle.hera_outcome.specs.Told.{Answered}
use Rattle.hera_outcome.proofs.Passing.{handed_on}
use Rattle.hera_words.specs.declared.command.Command.TheVariants.{Checkpoint}
use Rattle.hera_top.specs.Commands.{Finds}
use Rattle.hera_top.proofs.Renewing.{unopened_answered, full_answered, memory_answered, stopped_answered, renewed_answered}
use Rattle.hera_top.proofs.folders.checkpoint.Goals as goal

pub returns-in-Ok : goal.returns-in-Ok
returns-in-Ok g c =
    let opened = c.in_ok-store.ensures.opened in
    let done = c.in-Ok.ensures in
    record {
      answered = renewed_answered g.W.Output g.W.Outside c.args.outside.now c.open_folder.new.outside c.in_ok-store.store opened c.checkpoint.new.outside c.checkpoint.ensures.emitted (λ told. c.checkpoint.ensures.any_moment told opened.opens.unclosed)
          c.checkpoint.ensures.output (done.device_still (λ h. cc (h))) done.settled done.selects done.renewed done.fits c.tell.new.outside c.tell.result c.tell.ensures.said c.tell.ensures.done;
    }

pub returns-in-Err-Full : goal.returns-in-Err-Full
returns-in-Err-Full g c =
    let is = ap Err c.in-Err-Full.field-0-is in
    let refusal = subst (λ (f : CheckFault). IsCheckRefusal (database_of c.in_ok-store.store) half_limit f) c.in-Err-Full.field-0-is c.in-Err-Full.ensures.refusal in
    record { answered = full_answered g.W.Output g.W.Outside c.args.outside.now c.open_folder.new.outside c.in_ok-store.store c.in_ok-store.ensures.opened c.checkpoint.new.outside refusal.2 (c.in-Err-Full.ensures.untouched (λ h. cc (sym is ∙ h))) }

pub returns-in-Err-Device : goal.returns-in-Err-Device
returns-in-Err-Device g c =
    let is = ap Err c.in-Err-Device.field-0-is in
    let opened = c.in_ok-store.ensures.opened in
    let short = subst (λ (f : CheckFault). IsCheckRefusal (database_of c.in_ok-store.store) half_limit f) c.in-Err-Device.field-0-is c.in-Err-Device.ensures.refusal in
    record {
      answered = stopped_answered g.W.Output g.W.Outside c.args.outside.now c.open_folder.new.outside c.in_ok-store.store opened c.checkpoint.new.outside c.checkpoint.ensures.emitted (λ told. c.checkpoint.ensures.any_moment told opened.opens.unclosed)
          c.checkpoint.ensures.output (record { later = c.checkpoint.ensures.device_later; rose = c.in-Err-Device.ensures.device is }) short (λ told. c.checkpoint.ensures.reads told opened.opens.unclosed);
    }

pub returns-in-Err-Memory : goal.returns-in-Err-Memory
returns-in-Err-Memory g c =
    let is = ap Err c.in-Err-Memory.field-0-is in
    record { answered = memory_answered g.W.Output g.W.Outside c.args.outside.now c.open_folder.new.outside c.in_ok-store.store c.in_ok-store.ensures.opened Checkpoint c.checkpoint.new.outside (c.in-Err-Memory.ensures.untouched (λ h. cc (sym is ∙ h))) }

pub returns-in_err-store : goal.returns-in_err-store
returns-in_err-store g c =
    let a = c.args.outside.now in
    let stop = c.in_err-store.field-0.0 in
    record {
      answered = handed_on (λ (r : Result Ending Stop). Answered (Finds (start g.W.Outside a) Checkpoint) r (passage g.W.Output g.W.Outside a c.open_folder.new.outside)) c.from_residual.result stop c.from_residual.ensures.1
          (unopened_answered Checkpoint stop (passage g.W.Output g.W.Outside a c.open_folder.new.outside) c.in_err-store.ensures.unopened);
    }
