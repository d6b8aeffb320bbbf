-- The code of each phrase, and of a program.
use Rattle.std.specs.Prelude.{ℕ, zero, suc, ◌+◌, Bool, true, false, List, [], ◌∷◌, ◌++◌, Option, Some, None}
use Rattle.hera_meaning.specs.declared.scalars.Scalar.TheVariants.{Bool as bool_scalar, Text as text_scalar}
use Rattle.hera_meaning.specs.declared.trees.Const.TheVariants.{Scalar}
use Rattle.hera_meaning.specs.declared.trees.Shape.TheVariants.{Text as text_shape}
use Rattle.hera_meaning.specs.Trees.{Expr, constant, local, relation, prim, chain, and_all, or_any, when, select, map_each, call, host, Exprs, no_more, then_expr, Links, no_link, link, Hypos, no_hypo, hypo, Command, set_slot, if_arms, while, foreach, print, apply, commit, rollback, assert, return, return_value, call_proc, Block, no_stmt, then_stmt, Arms, no_arm, arm, Body_tree, Program_tree}
use Rattle.hera_meaning.specs.Addresses.{expr_end, every_last, some_end, hypos_end, hypos_count, command_end, block_end, arms_end, body_end}
use Rattle.hera_code.specs.declared.instrs.Instr.{Instr}
use Rattle.hera_code.specs.declared.instrs.Instr.TheVariants.{Push, Load, Store, Rel, Prim, Host, Jump, Unless, Back, Enter, Leave, Walk, Next, Keep, Gather, Yield, Drop, Call, Ret, RetVal, Print, Apply, Commit, Rollback, Assert, Halt}
use Rattle.hera_code.specs.declared.instrs.BodyInfo.{BodyInfo}
use Rattle.hera_code.specs.declared.instrs.Code.{Code}

-- ---- expressions: the code of each that begins at an address

abbrev pub push_bool : Bool → Instr
push_bool b = Push (Scalar (bool_scalar b))

abbrev pub leaves : ℕ → List Instr
leaves zero = []
leaves (suc n) = Leave ∷ leaves n

abbrev mutual
  pub expr_code : Expr → ℕ → List Instr
  expr_code (constant c) a = Push c ∷ []
  expr_code (local i) a = Load i ∷ []
  expr_code (relation r) a = Rel (record { 0 = r }) ∷ []
  expr_code (prim op args at) a = exprs_code args a ++ Prim op at ∷ []
  expr_code (chain first links) a = expr_code first a ++ links_code links (expr_end first a)
  expr_code (and_all args) a = every_code args a (every_last args a)
  expr_code (or_any args) a = some_code args a (some_end args a)
  expr_code (when body hypos) a = hypos_code hypos a ++ (expr_code body (hypos_end hypos a) ++ leaves (hypos_count hypos))
  -- the operand; Walk; L: Next(i, X); the body; Keep or Gather; Back L; X: Yield
  expr_code (select i of body) a =
      let l = expr_end of a + 1 in let x = expr_end body (l + 1) + 1 + 1 in
      expr_code of a ++ Walk ∷ Next i x ∷ (expr_code body (l + 1) ++ Keep ∷ Back l ∷ Yield ∷ [])
  expr_code (map_each i of body) a =
      let l = expr_end of a + 1 in let x = expr_end body (l + 1) + 1 + 1 in
      expr_code of a ++ Walk ∷ Next i x ∷ (expr_code body (l + 1) ++ Gather ∷ Back l ∷ Yield ∷ [])
  expr_code (call k args) a = exprs_code args a ++ Call k ∷ []
  expr_code (host h args) a = exprs_code args a ++ Host h ∷ []

  pub exprs_code : Exprs → ℕ → List Instr
  exprs_code no_more a = []
  exprs_code (then_expr e es) a = expr_code e a ++ exprs_code es (expr_end e a)

  -- each operand but the last: the operand, Unless F; the last; Jump X; F: Push false; X
  pub every_code : Exprs → (a f : ℕ) → List Instr
  every_code no_more a f = push_bool false ∷ []
  every_code (then_expr e no_more) a f = expr_code e a ++ Jump (f + 1) ∷ push_bool false ∷ []
  every_code (then_expr e (then_expr d es)) a f = expr_code e a ++ Unless f ∷ every_code (then_expr d es) (expr_end e a + 1) f

  -- each operand but the last: the operand, Unless N, Push true, Jump X, N; then the last; X
  pub some_code : Exprs → (a x : ℕ) → List Instr
  some_code no_more a x = []
  some_code (then_expr e no_more) a x = expr_code e a
  some_code (then_expr e (then_expr d es)) a x =
      let n = expr_end e a + 1 + 1 + 1 in expr_code e a ++ Unless n ∷ push_bool true ∷ Jump x ∷ some_code (then_expr d es) n x

  pub links_code : Links → ℕ → List Instr
  links_code no_link a = []
  links_code (link op arg at rest) a = expr_code arg a ++ Prim op at ∷ links_code rest (expr_end arg a + 1)

  -- the last delta first
  pub hypos_code : Hypos → ℕ → List Instr
  hypos_code no_hypo a = []
  hypos_code (hypo d at rest) a = hypos_code rest a ++ (expr_code d (hypos_end rest a) ++ Enter at ∷ [])

-- ---- statements

-- what the body is in which a statement stands
pub data Role : Type 0 where
  in_main : Role
  in_func : Role
  in_proc : Role

abbrev pub return_code : Role → Instr
return_code in_main = Halt
return_code in_func = RetVal
return_code in_proc = Ret

-- a label is pushed and printed as a text
abbrev pub label_code : Option (List ℕ) → List Instr
label_code None = []
label_code (Some label) = Push (Scalar (text_scalar label)) ∷ Print text_shape ∷ []

module _ (p : Role) where
  abbrev mutual
    pub command_code : Command → ℕ → List Instr
    command_code (set_slot i e) a = expr_code e a ++ Store i ∷ []
    command_code (if_arms arms other) a = arms_code arms a (block_end other (arms_end arms a)) ++ block_code other (arms_end arms a)
    -- L: the condition; Unless X; the block; Back L; X
    command_code (while c block) a =
        let b = expr_end c a + 1 in let x = block_end block b + 1 in expr_code c a ++ Unless x ∷ (block_code block b ++ Back a ∷ [])
    -- the operand; Walk; L: Next(i, X); the block; Back L; X: Drop
    command_code (foreach i of block) a =
        let l = expr_end of a + 1 in let x = block_end block (l + 1) + 1 in
        expr_code of a ++ Walk ∷ Next i x ∷ (block_code block (l + 1) ++ Back l ∷ Drop ∷ [])
    command_code (print e shape) a = expr_code e a ++ Print shape ∷ []
    command_code (apply d at) a = expr_code d a ++ Apply at ∷ []
    command_code (commit label) a = Commit ∷ label_code label
    command_code rollback a = Rollback ∷ []
    command_code (assert c at) a = expr_code c a ++ Assert at ∷ []
    command_code return a = return_code p ∷ []
    command_code (return_value e) a = expr_code e a ++ return_code p ∷ []
    command_code (call_proc k args) a = exprs_code args a ++ Call k ∷ []

    pub block_code : Block → ℕ → List Instr
    block_code no_stmt a = []
    block_code (then_stmt c rest) a = command_code c a ++ block_code rest (command_end c a)

    -- each arm: the condition, Unless N, the block, Jump X, N; x is behind the else block
    pub arms_code : Arms → (a x : ℕ) → List Instr
    arms_code no_arm a x = []
    arms_code (arm c block rest) a x =
        let b = expr_end c a + 1 in let n = block_end block b + 1 in
        expr_code c a ++ Unless n ∷ (block_code block b ++ Jump x ∷ arms_code rest n x)

-- ---- programs

-- what stands behind a body's block
abbrev pub last_code : Role → List Instr
last_code in_main = Halt ∷ []
last_code in_func = []
last_code in_proc = Ret ∷ []

-- the role of a body behind main
abbrev pub role_of : Bool → Role
role_of true = in_func
role_of false = in_proc

abbrev pub body_code : Role → Block → ℕ → List Instr
body_code p block a = block_code p block a ++ last_code p

abbrev pub info_of : Body_tree → ℕ → BodyInfo
info_of b a = record { at = a; params = b.params; slots = b.slots; func = b.func }

-- the bodies behind main, one behind another
abbrev pub bodies_code : List Body_tree → ℕ → List Instr
bodies_code [] a = []
bodies_code (b ∷ bodies) a = body_code (role_of b.func) b.block a ++ bodies_code bodies (body_end b.func b.block a)

abbrev pub infos_of : List Body_tree → ℕ → List BodyInfo
infos_of [] a = []
infos_of (b ∷ bodies) a = info_of b a ∷ infos_of bodies (body_end b.func b.block a)

-- main first, at address 0
abbrev pub code_from : List Body_tree → Code
code_from [] = record { instrs = []; bodies = [] }
code_from (b ∷ bodies) =
    let a = block_end b.block 0 + 1 in
    record { instrs = body_code in_main b.block 0 ++ bodies_code bodies a; bodies = info_of b 0 ∷ infos_of bodies a }

-- the code of a program
abbrev pub code_of : Program_tree → Code
code_of p = code_from p.bodies
