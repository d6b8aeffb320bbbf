use Rattle.std.proofs.Common.{◌≡◌, [], map, drop}
use Rattle.hera_rules.specs.Programs.{relations_row}
use Rattle.hera_rules.specs.ReadActs.{relation_phrase}
use Rattle.hera_types_globals.proofs.relations.relations_of.Given as goal

abbrev pub invariant-loop-tree : goal.invariant-loop-tree
invariant-loop-tree l = relations_row [] (map relation_phrase l.trees) ≡ relations_row l.relations (map relation_phrase (drop l.tree-index l.trees))
