use Rattle.std.proofs.Common.{◌≡◌, ◌++◌, map, drop}
use Rattle.hera_meaning.specs.Shapes.{body_types}
use Rattle.hera_rules.specs.Environments.{env_of}
use Rattle.hera_rules.specs.ReadActs.{proc_phrase}
use Rattle.hera_shapes.specs.Found.{procs_found}
use Rattle.hera_shapes.proofs.bodies.all_procs.Given as goal

abbrev pub invariant-loop-i : goal.invariant-loop-i
invariant-loop-i l =
    map body_types l.all.items ++ procs_found (env_of l.globals) (drop l.i l.sigs) (map proc_phrase (drop l.i l.trees))
    ≡ map body_types l.initial.all.items ++ procs_found (env_of l.globals) l.sigs (map proc_phrase l.trees)
