use Rattle.std.proofs.Common.{ℕ, List, ◌≡◌, ◌+◌, ◌∙◌, length, ap, sym, subst, refl, Some, None, Option}
use Rattle.hera_outcome.specs.Outcomes.{refused}
use Rattle.hera_outcome.specs.Passages.{passage}
use Rattle.hera_outcome.specs.declared.refusal.Refusal.TheVariants.{Usage}
use Rattle.hera_words.specs.declared.command.Command.{Command}
use Rattle.hera_words.specs.Words.{words_of, command_of, files_in, folder_in}
use Rattle.hera_top.specs.Commands.{Answers}
use Rattle.hera_top.specs.Sources.{seen_of}
use Rattle.hera_top.proofs.Answering.{concluded, keeps_both, later_itself, same_command, no_folder_word, no_file_word}
use Rattle.hera_top.proofs.Statuses.{no_usage, device_rose, output_rose, source_rose, device_later, output_later, usage_output_rose, usage_not_seven, told_output_later, usage_device_later}
use Rattle.hera_top.proofs.top.hera.Goals as goal

none_is_not_some : (command : Command) → None ≡ Some command → ⊥
none_is_not_some command is = cc (is)

pub answer-ended-requires : goal.answer-ended-requires
answer-ended-requires g c =
    let read : command_of (words_of c.args.words.now.items) ≡ Some c.in-Some.command = ap (λ l. command_of (words_of l)) (sym c.as_slice.ensures.value) ∙ sym c.read_words.ensures.command ∙ c.in-Some.is in
    record { sources = subst (λ (o : Option Command). length c.args.sources.now.items + (files_in o).0 ≡ (files_in o).1) read c.requires.sources }

pub returns-in-Some : goal.returns-in-Some
returns-in-Some g c =
    let read : command_of (words_of c.args.words.now.items) ≡ Some c.in-Some.command = ap (λ l. command_of (words_of l)) (sym c.as_slice.ensures.value) ∙ sym c.read_words.ensures.command ∙ c.in-Some.is in
    let hosts = c.args.hosts.now.names in
    let name = c.as_bytes-name.result.now in
    let command = c.in-Some.command in
    let before = seen_of g.S.Source.left g.S.Source.faults c.args.sources.now.items in
    let now = seen_of g.S.Source.left g.S.Source.faults c.answer-ended.new.sources.items in
    let status = c.conclude.result in
    let v = passage g.W.Output g.W.Outside c.args.outside.now c.conclude.new.outside in
    let whole = concluded g.W.Output g.W.Outside c.args.outside.now c.answer-ended.new.outside c.conclude.new.outside hosts name command before now c.answer-ended.result status c.answer-ended.ensures.answered
    c.conclude.ensures.refused c.conclude.ensures.number c.conclude.ensures.still in
    record {
      usage = λ is. absurd (none_is_not_some command (sym is ∙ read));
      usage_only = λ is. absurd (no_usage hosts name before now command status v whole is);
      answers = λ other is. subst (λ (n : List ℕ). Answers hosts n other before now status v) (c.as_bytes-name.ensures.value ∙ c.relation_of.ensures)
          (same_command hosts name command other before now status v (sym read ∙ is) whole);
      keeps = λ none. keeps_both g.W.Output g.W.Outside c.args.outside.now c.answer-ended.new.outside c.conclude.new.outside hosts name command before now c.answer-ended.result status c.answer-ended.ensures.answered
          (c.answer-ended.ensures.apart (no_folder_word command (ap folder_in (sym read) ∙ none))).keeps c.conclude.ensures.keeps;
      unread_sources = λ none. c.answer-ended.ensures.unread (no_file_word command (ap files_in (sym read) ∙ none));
      device = λ is. device_rose hosts name before now command status v whole is;
      device_only = λ is none. c.conclude.ensures.no_device (c.answer-ended.ensures.apart (no_folder_word command (ap folder_in (sym read) ∙ none))).no_device is;
      unread = λ is. source_rose hosts name before now command status v whole is;
      output = λ is. output_rose hosts name before now command status v whole is;
      source_later = c.answer-ended.ensures.answered.later;
      output_later = output_later hosts name before now command status v whole;
      device_later = device_later hosts name before now command status v whole;
    }

pub returns-in-None-clause-usage_only : goal.returns-in-None-clause-usage_only
returns-in-None-clause-usage_only g c = λ is. (ap (λ l. command_of (words_of l)) (sym c.as_slice.ensures.value) ∙ sym c.read_words.ensures.command ∙ c.in-None.is)

pub returns-in-None-clause-answers : goal.returns-in-None-clause-answers
returns-in-None-clause-answers g c = λ command is. absurd (none_is_not_some command (sym (ap (λ l. command_of (words_of l)) (sym c.as_slice.ensures.value) ∙ sym c.read_words.ensures.command ∙ c.in-None.is) ∙ is))

pub returns-in-None-clause-device : goal.returns-in-None-clause-device
returns-in-None-clause-device g c = λ is. absurd (c.refuse.ensures.no_device is)

pub returns-in-None-clause-device_only : goal.returns-in-None-clause-device_only
returns-in-None-clause-device_only g c = λ is none. c.refuse.ensures.no_device is

pub returns-in-None-clause-unread : goal.returns-in-None-clause-unread
returns-in-None-clause-unread g c = λ is. absurd (usage_not_seven (refused Usage) c.refuse.result (passage g.W.Output g.W.Outside c.args.outside.now c.refuse.new.outside) refl c.refuse.ensures.told is)

pub returns-in-None-clause-output : goal.returns-in-None-clause-output
returns-in-None-clause-output g c = λ is. usage_output_rose (refused Usage) c.refuse.result (passage g.W.Output g.W.Outside c.args.outside.now c.refuse.new.outside) refl c.refuse.ensures.told is

pub returns-in-None-clause-source_later : goal.returns-in-None-clause-source_later
returns-in-None-clause-source_later g c = later_itself (seen_of g.S.Source.left g.S.Source.faults c.args.sources.now.items)

pub returns-in-None-clause-output_later : goal.returns-in-None-clause-output_later
returns-in-None-clause-output_later g c = told_output_later (refused Usage) c.refuse.result (passage g.W.Output g.W.Outside c.args.outside.now c.refuse.new.outside) c.refuse.ensures.told

pub returns-in-None-clause-device_later : goal.returns-in-None-clause-device_later
returns-in-None-clause-device_later g c = usage_device_later (refused Usage) c.refuse.result (passage g.W.Output g.W.Outside c.args.outside.now c.refuse.new.outside) c.refuse.ensures.told
