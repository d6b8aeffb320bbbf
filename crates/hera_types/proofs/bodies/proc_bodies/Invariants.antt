use Rattle.std.proofs.Common.{◌≡◌, map, drop}
use Rattle.hera_rules.specs.Environments.{env_of}
use Rattle.hera_rules.specs.CheckedScripts.{check_procs}
use Rattle.hera_rules.specs.ReadActs.{proc_phrase}
use Rattle.hera_types.specs.Passes.{bodies_of}
use Rattle.hera_types.proofs.bodies.proc_bodies.Given as goal

abbrev pub invariant-loop-i : goal.invariant-loop-i
invariant-loop-i l =
    check_procs (env_of l.globals) (bodies_of l.initial.bodies) l.sigs (map proc_phrase l.trees)
    ≡ check_procs (env_of l.globals) (bodies_of l.bodies) (drop l.i l.sigs) (map proc_phrase (drop l.i l.trees))
