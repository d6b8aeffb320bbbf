use Rattle.std.proofs.Common.{◌≡◌, [], map, drop}
use Rattle.hera_rules.specs.Programs.{funcs_row}
use Rattle.hera_rules.specs.ReadActs.{func_phrase}
use Rattle.hera_types_globals.proofs.signatures.funcs_of.Given as goal

abbrev pub invariant-loop-tree : goal.invariant-loop-tree
invariant-loop-tree l = funcs_row l.relations l.taken [] (map func_phrase l.trees) ≡ funcs_row l.relations l.taken l.sigs.items (map func_phrase (drop l.tree-index l.trees))
