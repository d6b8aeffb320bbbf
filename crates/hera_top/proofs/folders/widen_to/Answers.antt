use Rattle.std.proofs.Common.{◌∙◌, Result, Err, ap, sym, subst}
use Rattle.rel_format.specs.Journal.{half_limit}
use Rattle.hera_store.specs.Standing.{database_of}
use Rattle.hera_store.specs.Faults.{IsWidenRefusal}
use Rattle.hera_store.specs.declared.faults.WidenFault.{WidenFault}
use Rattle.hera_outcome.specs.declared.answer.Ending.{Ending}
use Rattle.hera_outcome.specs.declared.answer.Stop.{Stop}
use Rattle.hera_outcome.specs.Passages.{passage, start}
use Rattle.hera_outcome.specs.Told.{Answered}
use Rattle.hera_outcome.proofs.Passing.{handed_on}
use Rattle.hera_top.specs.Commands.{IsWidened}
use Rattle.hera_top.proofs.Widening.{unopened_answered, full_answered, narrowed_answered, memory_answered, stopped_answered, widened_answered}
use Rattle.hera_top.proofs.folders.widen_to.Goals as goal

pub returns-in-Ok : goal.returns-in-Ok
returns-in-Ok g c =
    let opened = c.in_ok-store.ensures.opened in
    let done = c.in-Ok.ensures in
    record {
      answered = widened_answered g.W.Output g.W.Outside c.args.outside.now c.open_folder.new.outside c.in_ok-store.store opened c.args.catalogue.now c.widen.new.outside c.widen.ensures.emitted (λ told. c.widen.ensures.any_moment told opened.opens.unclosed)
          done.wider done.fits c.widen.ensures.output (done.device_still (λ h. cc (h))) done.settled done.holds c.tell.new.outside c.tell.result c.tell.ensures.said c.tell.ensures.done;
    }

pub returns-in-Err-Narrows : goal.returns-in-Err-Narrows
returns-in-Err-Narrows g c =
    let is = ap Err c.in-Err-Narrows.field-0-is in
    let refusal = subst (λ (f : WidenFault). IsWidenRefusal (database_of c.in_ok-store.store) c.args.catalogue.now half_limit f) c.in-Err-Narrows.field-0-is c.in-Err-Narrows.ensures.refusal in
    record { answered = narrowed_answered g.W.Output g.W.Outside c.args.outside.now c.open_folder.new.outside c.in_ok-store.store c.in_ok-store.ensures.opened c.args.catalogue.now c.widen.new.outside c.in-Err-Narrows.relation refusal (c.in-Err-Narrows.ensures.untouched (λ h. cc (sym is ∙ h))) }

pub returns-in-Err-Full : goal.returns-in-Err-Full
returns-in-Err-Full g c =
    let is = ap Err c.in-Err-Full.field-0-is in
    let refusal = subst (λ (f : WidenFault). IsWidenRefusal (database_of c.in_ok-store.store) c.args.catalogue.now half_limit f) c.in-Err-Full.field-0-is c.in-Err-Full.ensures.refusal in
    record { answered = full_answered g.W.Output g.W.Outside c.args.outside.now c.open_folder.new.outside c.in_ok-store.store c.in_ok-store.ensures.opened c.args.catalogue.now c.widen.new.outside refusal.0 refusal.3 (c.in-Err-Full.ensures.untouched (λ h. cc (sym is ∙ h))) }

pub returns-in-Err-Device : goal.returns-in-Err-Device
returns-in-Err-Device g c =
    let is = ap Err c.in-Err-Device.field-0-is in
    let opened = c.in_ok-store.ensures.opened in
    let refusal = subst (λ (f : WidenFault). IsWidenRefusal (database_of c.in_ok-store.store) c.args.catalogue.now half_limit f) c.in-Err-Device.field-0-is c.in-Err-Device.ensures.refusal in
    record {
      answered = stopped_answered g.W.Output g.W.Outside c.args.outside.now c.open_folder.new.outside c.in_ok-store.store opened c.args.catalogue.now c.widen.new.outside c.widen.ensures.emitted (λ told. c.widen.ensures.any_moment told opened.opens.unclosed)
          refusal.0 refusal.1 c.widen.ensures.output (record { later = c.widen.ensures.device_later; rose = c.in-Err-Device.ensures.device is }) (λ told. c.widen.ensures.reads told opened.opens.unclosed);
    }

pub returns-in-Err-Memory : goal.returns-in-Err-Memory
returns-in-Err-Memory g c =
    let is = ap Err c.in-Err-Memory.field-0-is in
    record { answered = memory_answered g.W.Output g.W.Outside c.args.outside.now c.open_folder.new.outside c.in_ok-store.store c.in_ok-store.ensures.opened c.args.catalogue.now c.widen.new.outside (c.in-Err-Memory.ensures.untouched (λ h. cc (sym is ∙ h))) }

pub returns-in_err-store : goal.returns-in_err-store
returns-in_err-store g c =
    let a = c.args.outside.now in
    let stop = c.in_err-store.field-0.0 in
    record {
      answered = handed_on (λ (r : Result Ending Stop). Answered (IsWidened c.args.catalogue.now (start g.W.Outside a)) r (passage g.W.Output g.W.Outside a c.open_folder.new.outside)) c.from_residual.result stop c.from_residual.ensures.1
          (unopened_answered c.args.catalogue.now stop (passage g.W.Output g.W.Outside a c.open_folder.new.outside) c.in_err-store.ensures.unopened);
    }
