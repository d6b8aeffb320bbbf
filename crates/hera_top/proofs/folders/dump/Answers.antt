use Rattle.std.proofs.Common.{Result, refl, sym, ◌∙◌}
use Rattle.hera_store.specs.Standing.{database_of}
use Rattle.hera_outcome.specs.declared.answer.Ending.{Ending}
use Rattle.hera_outcome.specs.declared.answer.Stop.{Stop}
use Rattle.hera_outcome.specs.declared.answer.Stop.TheVariants.{Memory}
use Rattle.hera_outcome.specs.Outcomes.{prints}
use Rattle.hera_outcome.specs.Passages.{passage, start}
use Rattle.hera_outcome.specs.Told.{Answered}
use Rattle.hera_outcome.proofs.Passing.{handed_on, tell_answered}
use Rattle.hera_words.specs.declared.command.Command.TheVariants.{Dump}
use Rattle.hera_top.specs.Commands.{Finds, tables_text, dumps}
use Rattle.hera_top.proofs.Renewing.{unopened_answered, memory_answered}
use Rattle.hera_top.proofs.folders.dump.Goals as goal

pub text_of_store-requires : goal.text_of_store-requires
text_of_store-requires g c = c.in_ok-store.ensures.opened.opens.state

pub returns : goal.returns
returns g c =
    let db = database_of c.in_ok-store.store in
    record {
      answered = tell_answered g.W.Output g.W.Outside c.args.outside.now c.open_folder.new.outside c.in_ok-store.ensures.opened.pending _ (prints (tables_text db.catalogue db.state)) c.tell.new.outside _ c.tell.result tt
          (sym (c.deref.ensures.value ∙ c.in_ok-text.ensures)) refl (dumps c.in_ok-store.ensures.opened.there) c.tell.ensures.said c.tell.ensures.done;
    }

pub returns-in_err-store : goal.returns-in_err-store
returns-in_err-store g c =
    let a = c.args.outside.now in
    let stop = c.in_err-store.field-0.0 in
    record {
      answered = handed_on (λ (r : Result Ending Stop). Answered (Finds (start g.W.Outside a) Dump) r (passage g.W.Output g.W.Outside a c.open_folder.new.outside)) c.from_residual.result stop c.from_residual.ensures.1
          (unopened_answered Dump stop (passage g.W.Output g.W.Outside a c.open_folder.new.outside) c.in_err-store.ensures.unopened);
    }

pub returns-in_err-text : goal.returns-in_err-text
returns-in_err-text g c =
    let a = c.args.outside.now in
    let stop = Memory in
    record {
      answered = handed_on (λ (r : Result Ending Stop). Answered (Finds (start g.W.Outside a) Dump) r (passage g.W.Output g.W.Outside a c.open_folder.new.outside)) c.from_residual-in_err-text.result stop c.from_residual-in_err-text.ensures.1
          (memory_answered g.W.Output g.W.Outside a c.open_folder.new.outside c.in_ok-store.store c.in_ok-store.ensures.opened Dump c.open_folder.new.outside refl);
    }
