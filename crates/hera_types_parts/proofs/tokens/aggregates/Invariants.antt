use Rattle.std.proofs.Common.{◌≡◌, ◌++◌, map, take}
use Rattle.hera_rules.specs.Read.{aggregate_of}
use Rattle.hera_types_parts.proofs.tokens.aggregates.Given as goal

abbrev pub invariant-loop-tree : goal.invariant-loop-tree
invariant-loop-tree l = l.all.items ≡ l.initial.all.items ++ map aggregate_of (take l.tree-index l.tree-items)
