use Rattle.std.proofs.Common.{◌≡◌, drop}
use Rattle.hera_rules.specs.Programs.{names_row}
use Rattle.hera_types_globals.specs.Passes.{func_names}
use Rattle.hera_types_globals.proofs.signatures.with_funcs.Given as goal

abbrev pub invariant-loop-tree : goal.invariant-loop-tree
invariant-loop-tree l = names_row l.initial.names (func_names l.trees) ≡ names_row l.names (func_names (drop l.tree-index l.trees))
