use Rattle.std.proofs.Common.{◌≡◌, ◌++◌, map, length, drop}
use Rattle.hera_meaning.specs.Plain.{body_of}
use Rattle.hera_codegen.specs.Roles.{bodies_code_from, infos_from}
use Rattle.hera_codegen.proofs.programs.emit_program.Given as goal

abbrev pub invariant-loop-k : goal.invariant-loop-k
invariant-loop-k l =
    (l.instrs.items ++ bodies_code_from l.k (map body_of (drop l.k l.body-items)) (length l.instrs.items) ≡ bodies_code_from 0 (map body_of l.body-items) 0)
    × (l.bodies.items ++ infos_from l.k (map body_of (drop l.k l.body-items)) (length l.instrs.items) ≡ infos_from 0 (map body_of l.body-items) 0)
