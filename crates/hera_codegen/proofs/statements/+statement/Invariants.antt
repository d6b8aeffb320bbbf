use Rattle.std.proofs.Common.{◌≡◌, ◌++◌, length, drop}
use Rattle.hera_meaning.specs.Plain.{block_in, arms_in}
use Rattle.hera_code.specs.Scheme.{block_code, arms_code}
use Rattle.hera_codegen.specs.Holes.{arms_holes}
use Rattle.hera_codegen.specs.Roles.{role_is}
use Rattle.hera_codegen.proofs.statements.+statement.Given as goal

abbrev pub invariant-emit_block-loop-stmt : goal.invariant-emit_block-loop-stmt
invariant-emit_block-loop-stmt l = l.code.items ++ block_code (role_is l.role) (block_in (drop l.stmt-index l.stmt-items)) (length l.code.items) ≡ l.initial.code.items ++ block_code (role_is l.role) (block_in l.stmt-items) (length l.initial.code.items)

abbrev pub invariant-emit_arms-loop-arm : goal.invariant-emit_arms-loop-arm
invariant-emit_arms-loop-arm l =
    (l.code.items ++ arms_code (role_is l.role) (arms_in (drop l.arm-index l.arm-items)) (length l.code.items) 0 ≡ l.fn.code.items ++ arms_code (role_is l.role) (arms_in l.arm-items) (length l.fn.code.items) 0)
    × (l.holes.items ++ arms_holes (arms_in (drop l.arm-index l.arm-items)) (length l.code.items) ≡ arms_holes (arms_in l.arm-items) (length l.fn.code.items))
