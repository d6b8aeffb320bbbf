use Rattle.std.proofs.Common.{◌≡◌, map, take}
use Rattle.hera_types_parts.specs.NameSets.{proc_name}
use Rattle.hera_types_parts.proofs.name_sets.names_of_procs.Given as goal

abbrev pub invariant-loop-proc : goal.invariant-loop-proc
invariant-loop-proc l = l.names ≡ map proc_name (take l.proc-index l.procs)
