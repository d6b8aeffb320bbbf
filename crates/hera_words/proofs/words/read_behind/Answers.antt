use Rattle.std.proofs.Common.{◌∙◌, ◌+◌, sym, ap, ℕ}
use Rattle.hera_words.specs.declared.form.Form.{Form}
use Rattle.hera_words.specs.Words.{command_named, files_place}
use Rattle.hera_words.proofs.Wording.{none_by_length, some_by_length}
use Rattle.hera_words.proofs.words.read_behind.Goals as goal

pub returns-else-words-files_place-clause-command : goal.returns-else-words-files_place-clause-command
returns-else-words-files_place-clause-command c =
    none_by_length (command_named c.args.name.now 0 0 1) c.args.name.now c.args.words.now c.in_ok-command.command c.in_ok-command.ensures.numbered
    (λ e. c.if-words-files_place.false (e ∙ sym (ap (λ (f : Form). files_place f + f.files) c.form-form.ensures) ∙ ap (λ (n : ℕ). n + c.form-form.result.files) (sym c.files_place.ensures)))

pub returns-then-words-files_place-clause-command : goal.returns-then-words-files_place-clause-command
returns-then-words-files_place-clause-command c =
    some_by_length (command_named c.args.name.now 0 0 1) c.args.name.now c.args.words.now c.in_ok-command.command c.in_ok-command.ensures.unknown c.in_ok-command.ensures.numbered
    (c.if-words-files_place.true ∙ ap (λ (n : ℕ). n + c.form-form.result.files) c.files_place.ensures ∙ ap (λ (f : Form). files_place f + f.files) c.form-form.ensures)
