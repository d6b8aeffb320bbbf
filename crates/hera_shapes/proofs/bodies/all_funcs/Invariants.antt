use Rattle.std.proofs.Common.{◌≡◌, ◌++◌, map, drop}
use Rattle.hera_meaning.specs.Shapes.{body_types}
use Rattle.hera_rules.specs.Environments.{env_of}
use Rattle.hera_rules.specs.ReadActs.{func_phrase}
use Rattle.hera_shapes.specs.Found.{funcs_found}
use Rattle.hera_shapes.proofs.bodies.all_funcs.Given as goal

abbrev pub invariant-loop-i : goal.invariant-loop-i
invariant-loop-i l =
    map body_types l.all.items ++ funcs_found (env_of l.globals) (drop l.i l.sigs) (map func_phrase (drop l.i l.trees))
    ≡ map body_types l.initial.all.items ++ funcs_found (env_of l.globals) l.sigs (map func_phrase l.trees)
