use Rattle.std.proofs.Common.{◌≡◌, map, drop}
use Rattle.hera_rules.specs.Programs.{params_row}
use Rattle.hera_rules.specs.ReadActs.{param_phrase}
use Rattle.hera_types_globals.proofs.signatures.some_params_of.Given as goal

abbrev pub invariant-loop-tree : goal.invariant-loop-tree
invariant-loop-tree l = params_row l.relations l.taken l.initial.locals (map param_phrase l.tree-items) ≡ params_row l.relations l.taken l.locals (map param_phrase (drop l.tree-index l.tree-items))
