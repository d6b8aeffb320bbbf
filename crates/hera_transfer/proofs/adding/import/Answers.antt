use Rattle.std.proofs.Common.{Result}
use Rattle.hera_outcome.specs.declared.answer.Ending.{Ending}
use Rattle.hera_outcome.specs.declared.answer.Stop.{Stop}
use Rattle.hera_outcome.specs.Passages.{passage, start}
use Rattle.hera_outcome.specs.Told.{Answered}
use Rattle.hera_outcome.proofs.Passing.{handed_on}
use Rattle.hera_run.proofs.Read.{read_once}
use Rattle.hera_transfer.specs.Transfers.{ImportsTo}
use Rattle.hera_transfer.proofs.Importing.{unopened_answered, unread_answered, unwritten_answered, unadded_answered, added_answered}
use Rattle.hera_transfer.proofs.adding.import.Goals as goal

pub returns : goal.returns
returns g c = record {
  answered = added_answered c.args.name.now c.args.file.items g.W.Output g.W.Outside c.args.outside.now c.open_folder.new.outside c.in_ok-old.old c.in_ok-old.ensures.opened
      (λ e P t opens. read_once g.W.Output g.W.Outside g.met.W.Outside.as_read g.met.W.Outside.only_now g.met.W.Outside.counts_now c.args.outside.now e P t opens) c.in_ok-read.read.schema c.in_ok-read.read.rows c.in_ok-read.ensures.read c.made_new.new.outside c.in_ok-store.store c.in_ok-store.ensures.made
      c.in_ok-planned.planned.delta c.in_ok-planned.planned.line c.in_ok-planned.ensures.added c.store_and_tell.new.outside c.store_and_tell.result c.store_and_tell.ensures.fault c.store_and_tell.ensures.told;
}

pub returns-in_err-old : goal.returns-in_err-old
returns-in_err-old g c =
    let a = c.args.outside.now in
    let stop = c.in_err-old.field-0.0 in
    record {
      answered = handed_on (λ (r : Result Ending Stop). Answered (ImportsTo c.args.name.now c.args.file.items (start g.W.Outside a)) r (passage g.W.Output g.W.Outside a c.open_folder.new.outside)) c.from_residual.result stop c.from_residual.ensures.1
          (unopened_answered c.args.name.now c.args.file.items g.W.Output g.W.Outside c.args.outside.now c.open_folder.new.outside stop c.in_err-old.ensures.unopened);
    }

pub returns-in_err-read : goal.returns-in_err-read
returns-in_err-read g c =
    let a = c.args.outside.now in
    let stop = c.in_err-read.field-0.0 in
    record {
      answered = handed_on (λ (r : Result Ending Stop). Answered (ImportsTo c.args.name.now c.args.file.items (start g.W.Outside a)) r (passage g.W.Output g.W.Outside a c.open_folder.new.outside)) c.from_residual-in_err-read.result stop c.from_residual-in_err-read.ensures.1
          (unread_answered c.args.name.now c.args.file.items g.W.Output g.W.Outside c.args.outside.now c.open_folder.new.outside c.in_ok-old.old c.in_ok-old.ensures.opened stop c.in_err-read.ensures.unread);
    }

pub returns-in_err-store : goal.returns-in_err-store
returns-in_err-store g c =
    let a = c.args.outside.now in
    let stop = c.in_err-store.field-0.0 in
    record {
      answered = handed_on (λ (r : Result Ending Stop). Answered (ImportsTo c.args.name.now c.args.file.items (start g.W.Outside a)) r (passage g.W.Output g.W.Outside a c.made_new.new.outside)) c.from_residual-in_err-store.result stop c.from_residual-in_err-store.ensures.1
          (unwritten_answered c.args.name.now c.args.file.items g.W.Output g.W.Outside c.args.outside.now c.open_folder.new.outside c.in_ok-old.old c.in_ok-old.ensures.opened
          (λ e P t opens. read_once g.W.Output g.W.Outside g.met.W.Outside.as_read g.met.W.Outside.only_now g.met.W.Outside.counts_now c.args.outside.now e P t opens) c.in_ok-read.read.schema c.in_ok-read.read.rows c.in_ok-read.ensures.read c.made_new.new.outside stop c.in_err-store.ensures.old c.in_err-store.ensures.unwritten);
    }

pub returns-in_err-planned : goal.returns-in_err-planned
returns-in_err-planned g c =
    let a = c.args.outside.now in
    let stop = c.in_err-planned.field-0.0 in
    record {
      answered = handed_on (λ (r : Result Ending Stop). Answered (ImportsTo c.args.name.now c.args.file.items (start g.W.Outside a)) r (passage g.W.Output g.W.Outside a c.made_new.new.outside)) c.from_residual-in_err-planned.result stop c.from_residual-in_err-planned.ensures.1
          (unadded_answered c.args.name.now c.args.file.items g.W.Output g.W.Outside c.args.outside.now c.open_folder.new.outside c.in_ok-old.old c.in_ok-old.ensures.opened
          (λ e P t opens. read_once g.W.Output g.W.Outside g.met.W.Outside.as_read g.met.W.Outside.only_now g.met.W.Outside.counts_now c.args.outside.now e P t opens) c.in_ok-read.read.schema c.in_ok-read.read.rows c.in_ok-read.ensures.read c.made_new.new.outside c.in_ok-store.store c.in_ok-store.ensures.made stop c.in_err-planned.ensures.unadded);
    }
