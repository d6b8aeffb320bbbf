use Rattle.std.proofs.Common.{◌≡◌, drop}
use Rattle.hera_rules.specs.Programs.{names_row}
use Rattle.hera_types_globals.specs.Passes.{proc_names}
use Rattle.hera_types_globals.proofs.signatures.with_procs.Given as goal

abbrev pub invariant-loop-tree : goal.invariant-loop-tree
invariant-loop-tree l = names_row l.initial.names (proc_names l.trees) ≡ names_row l.names (proc_names (drop l.tree-index l.trees))
