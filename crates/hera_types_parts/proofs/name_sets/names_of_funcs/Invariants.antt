use Rattle.std.proofs.Common.{◌≡◌, map, take}
use Rattle.hera_types_parts.specs.NameSets.{func_name}
use Rattle.hera_types_parts.proofs.name_sets.names_of_funcs.Given as goal

abbrev pub invariant-loop-func : goal.invariant-loop-func
invariant-loop-func l = l.names ≡ map func_name (take l.func-index l.funcs)
