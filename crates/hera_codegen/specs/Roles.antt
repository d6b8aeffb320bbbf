-- What the generator's words stand for.
use Rattle.std.specs.Prelude.{ℕ, zero, suc, Bool, ◌+◌, List, [], ◌∷◌, ◌++◌}
use Rattle.hera_meaning.specs.Trees.{Expr, Block, Body_tree}
use Rattle.hera_meaning.specs.Addresses.{expr_end, block_end, body_end}
use Rattle.hera_code.specs.declared.instrs.Instr.{Instr}
use Rattle.hera_code.specs.declared.instrs.Instr.TheVariants.{Unless}
use Rattle.hera_code.specs.declared.instrs.BodyInfo.{BodyInfo}
use Rattle.hera_code.specs.Scheme.{expr_code, Role, in_main, in_func, in_proc, role_of, block_code, body_code, bodies_code, info_of, infos_of}
use Rattle.hera_codegen.specs.declared.statements.Role.{Role as Role_word}
use Rattle.hera_codegen.specs.declared.statements.Role.TheVariants.{Main, Func, Proc}

abbrev pub role_is : Role_word → Role
role_is Main = in_main
role_is Func = in_func
role_is Proc = in_proc

-- an arm without the Jump behind its block
abbrev pub arm_front : Role → Expr → Block → ℕ → List Instr
arm_front p c block a = expr_code c a ++ Unless (block_end block (expr_end c a + 1) + 1) ∷ block_code p block (expr_end c a + 1)

-- the role of body k
abbrev pub body_role : ℕ → Bool → Role
body_role zero func = in_main
body_role (suc k) func = role_of func

-- the code of the bodies from body k on, and where they begin
abbrev pub bodies_code_from : (k : ℕ) → List Body_tree → ℕ → List Instr
bodies_code_from k [] a = []
bodies_code_from zero (b ∷ bodies) a = body_code in_main b.block a ++ bodies_code bodies (block_end b.block a + 1)
bodies_code_from (suc k) (b ∷ bodies) a = body_code (role_of b.func) b.block a ++ bodies_code bodies (body_end b.func b.block a)

abbrev pub infos_from : (k : ℕ) → List Body_tree → ℕ → List BodyInfo
infos_from k [] a = []
infos_from zero (b ∷ bodies) a = info_of b a ∷ infos_of bodies (block_end b.block a + 1)
infos_from (suc k) (b ∷ bodies) a = info_of b a ∷ infos_of bodies (body_end b.func b.block a)
