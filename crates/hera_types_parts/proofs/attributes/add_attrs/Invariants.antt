use Rattle.std.proofs.Common.{◌≡◌, ◌++◌, map, take}
use Rattle.hera_rules.specs.Rules.{attr_in}
use Rattle.hera_types_parts.proofs.attributes.add_attrs.Given as goal

abbrev pub invariant-loop-word : goal.invariant-loop-word
invariant-loop-word l = l.attrs.items ≡ l.fn.attrs.items ++ map (attr_in l.schema) (take l.word-index l.words)
