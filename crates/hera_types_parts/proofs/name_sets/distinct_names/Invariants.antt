use Rattle.std.proofs.Common.{◌≡◌, [], take, drop}
use Rattle.hera_rules.specs.Rules.{repeat_in, word_names}
use Rattle.hera_types_parts.proofs.name_sets.distinct_names.Given as goal

abbrev pub invariant-loop-word : goal.invariant-loop-word
invariant-loop-word l = record {
  names : l.names ≡ word_names (take l.word-index l.words);
  repeat : repeat_in [] l.words ≡ repeat_in l.names (drop l.word-index l.words);
}
