use Rattle.std.proofs.Common.{◌≡◌, drop}
use Rattle.hera_rules.specs.Rules.{stranger_in}
use Rattle.hera_types_parts.proofs.attributes.stranger_of.Given as goal

abbrev pub invariant-loop-word : goal.invariant-loop-word
invariant-loop-word l = stranger_in l.schema l.words ≡ stranger_in l.schema (drop l.word-index l.words)
