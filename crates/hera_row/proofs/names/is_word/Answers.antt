use Rattle.std.proofs.Common.{sym}
use Rattle.std.specs.Str.{chars}
use Rattle.hera_row.proofs.Words.{word_from}
use Rattle.hera_row.proofs.names.is_word.Goals as goal

pub returns-then-begins_word : goal.returns-then-begins_word
returns-then-begins_word c = word_from (chars c.args.text.now) c.in-Some.first c.all_continue.result (sym c.in-Some.ensures) (sym c.if-begins_word.ensures) c.all_continue.ensures
