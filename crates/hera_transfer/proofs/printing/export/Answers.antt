use Rattle.std.proofs.Common.{◌∙◌, inr, Result, refl, sym}
use Rattle.hera_meaning.specs.Deltas.{schema_of, rows_at}
use Rattle.hera_csv.specs.Writers.{csv_of}
use Rattle.hera_store.specs.Standing.{database_of}
use Rattle.hera_outcome.specs.declared.answer.Ending.{Ending}
use Rattle.hera_outcome.specs.declared.answer.Stop.{Stop}
use Rattle.hera_outcome.specs.declared.answer.Stop.TheVariants.{Memory}
use Rattle.hera_outcome.specs.Outcomes.{prints}
use Rattle.hera_outcome.specs.Passages.{passage, start, syncs_all}
use Rattle.hera_outcome.specs.Told.{Answered}
use Rattle.hera_outcome.proofs.Passing.{handed_on, given_up_there, tell_answered}
use Rattle.hera_transfer.specs.Transfers.{ExportsTo, unknown, writes}
use Rattle.hera_transfer.proofs.Importing.{export_unopened}
use Rattle.hera_transfer.proofs.printing.export.Goals as goal

pub returns : goal.returns
returns g c =
    let db = database_of c.in_ok-store.store in
    record {
      answered = tell_answered g.W.Output g.W.Outside c.args.outside.now c.open_folder.new.outside c.in_ok-store.ensures.opened.pending _ (prints (csv_of (schema_of db.catalogue c.in-Some.rel.0) (rows_at db.state c.in-Some.rel.0))) c.tell.new.outside _ c.tell.result tt
          (sym (c.bytes.ensures ∙ c.in_ok-text.ensures)) refl (writes c.in_ok-store.ensures.opened.there c.in-Some.ensures.some) c.tell.ensures.said c.tell.ensures.done;
    }

pub returns-in_default : goal.returns-in_default
returns-in_default g c = record { answered = (unknown c.in_ok-store.ensures.opened.there (c.relation_named.ensures.none c.in_default.is), c.in_ok-store.ensures.opened.pending) }

pub returns-in_err-store : goal.returns-in_err-store
returns-in_err-store g c =
    let a = c.args.outside.now in
    let stop = c.in_err-store.field-0.0 in
    let v = passage g.W.Output g.W.Outside a c.open_folder.new.outside in
    record { answered = handed_on (λ (r : Result Ending Stop). Answered (ExportsTo c.args.name.now (start g.W.Outside a)) r v) c.from_residual.result stop c.from_residual.ensures.1 (export_unopened c.args.name.now stop v c.in_err-store.ensures.unopened) }

pub returns-in_err-text : goal.returns-in_err-text
returns-in_err-text g c =
    let a = c.args.outside.now in
    let b = c.open_folder.new.outside in
    let opened = c.in_ok-store.ensures.opened in
    record {
      answered = handed_on (λ (r : Result Ending Stop). Answered (ExportsTo c.args.name.now (start g.W.Outside a)) r (passage g.W.Output g.W.Outside a b)) c.from_residual-in_err-text.result Memory c.from_residual-in_err-text.ensures.1
          (inr (given_up_there g.W.Output g.W.Outside a b opened.pending (λ t. syncs_all (opened.synced t))));
    }
