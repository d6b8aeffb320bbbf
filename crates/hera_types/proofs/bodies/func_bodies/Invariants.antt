use Rattle.std.proofs.Common.{◌≡◌, [], map, drop}
use Rattle.hera_rules.specs.Environments.{env_of}
use Rattle.hera_rules.specs.CheckedScripts.{check_funcs}
use Rattle.hera_rules.specs.ReadActs.{func_phrase}
use Rattle.hera_types.specs.Passes.{bodies_of}
use Rattle.hera_types.proofs.bodies.func_bodies.Given as goal

abbrev pub invariant-loop-i : goal.invariant-loop-i
invariant-loop-i l =
    check_funcs (env_of l.globals) [] l.sigs (map func_phrase l.trees)
    ≡ check_funcs (env_of l.globals) (bodies_of l.bodies) (drop l.i l.sigs) (map func_phrase (drop l.i l.trees))
