use Rattle.std.proofs.Common.{◌≡◌, take}
use Rattle.hera_rules.specs.Rules.{places_in}
use Rattle.hera_types_parts.proofs.attributes.places_of.Given as goal

abbrev pub invariant-loop-word : goal.invariant-loop-word
invariant-loop-word l = l.places.items ≡ places_in l.schema (take l.word-index l.words)
