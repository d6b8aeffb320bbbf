use Rattle.std.proofs.Common.{◌≡◌, [], map, drop}
use Rattle.hera_rules.specs.Programs.{procs_row}
use Rattle.hera_rules.specs.ReadActs.{proc_phrase}
use Rattle.hera_types_globals.proofs.signatures.procs_of.Given as goal

abbrev pub invariant-loop-tree : goal.invariant-loop-tree
invariant-loop-tree l = procs_row l.relations l.taken l.funcs [] (map proc_phrase l.trees) ≡ procs_row l.relations l.taken l.funcs l.sigs.items (map proc_phrase (drop l.tree-index l.trees))
