use Rattle.std.proofs.Common.{◌≡◌, ◌++◌, map, take}
use Rattle.hera_rules.specs.Read.{word_of}
use Rattle.hera_types_parts.proofs.tokens.words.Given as goal

abbrev pub invariant-loop-token : goal.invariant-loop-token
invariant-loop-token l = l.all.items ≡ l.initial.all.items ++ map word_of (take l.token-index l.token-items)
