use Rattle.std.proofs.Common.{◌∙◌, sym, arith}
use Rattle.hera_words.proofs.Wording.{word_within, word_past}
use Rattle.hera_words.proofs.words.word_at.Goals as goal

pub returns-then-place-words : goal.returns-then-place-words
returns-then-place-words c =
    c.as_str.ensures.value ∙ word_within c.args.words.now c.args.place c.index-words-place.result c.if-place-words.true c.index-words-place.is

pub returns-else-place-words : goal.returns-else-place-words
returns-else-place-words c = sym (word_past c.args.words.now c.args.place (omega arith))
