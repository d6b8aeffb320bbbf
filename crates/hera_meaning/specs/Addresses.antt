-- Where the code of each phrase ends: how many instructions it has.
use Rattle.std.specs.Prelude.{ℕ, suc, ◌+◌, Bool, true, false, List, [], ◌∷◌, Some, None}
use Rattle.hera_meaning.specs.Trees.{Expr, constant, local, relation, prim, chain, and_all, or_any, when, select, map_each, call, host, Exprs, no_more, then_expr, Links, no_link, link, Hypos, no_hypo, hypo, Command, set_slot, if_arms, while, foreach, print, apply, commit, rollback, assert, return, return_value, call_proc, Block, no_stmt, then_stmt, Arms, no_arm, arm, Body_tree, Program_tree}

-- the address behind the code of a phrase that begins at an address
abbrev mutual
  pub expr_end : Expr → ℕ → ℕ
  expr_end (constant c) a = a + 1
  expr_end (local i) a = a + 1
  expr_end (relation r) a = a + 1
  expr_end (prim op args at) a = exprs_end args a + 1
  expr_end (chain first links) a = links_end links (expr_end first a)
  expr_end (and_all args) a = every_last args a + 1
  expr_end (or_any args) a = some_end args a
  expr_end (when body hypos) a = expr_end body (hypos_end hypos a) + hypos_count hypos
  -- the operand, Walk, Next, the body, Keep or Gather, Back, Yield
  expr_end (select i of body) a = expr_end body (expr_end of a + 1 + 1) + 1 + 1 + 1
  expr_end (map_each i of body) a = expr_end body (expr_end of a + 1 + 1) + 1 + 1 + 1
  expr_end (call k args) a = exprs_end args a + 1
  expr_end (host h args) a = exprs_end args a + 1

  pub exprs_end : Exprs → ℕ → ℕ
  exprs_end no_more a = a
  exprs_end (then_expr e es) a = exprs_end es (expr_end e a)

  -- of `&&`: the address of the last instruction, which pushes false; each operand but the last has an
  -- Unless, and the last a Jump
  pub every_last : Exprs → ℕ → ℕ
  every_last no_more a = a
  every_last (then_expr e no_more) a = expr_end e a + 1
  every_last (then_expr e (then_expr f fs)) a = every_last (then_expr f fs) (expr_end e a + 1)

  -- of `||`: each operand but the last has an Unless, a Push and a Jump
  pub some_end : Exprs → ℕ → ℕ
  some_end no_more a = a
  some_end (then_expr e no_more) a = expr_end e a
  some_end (then_expr e (then_expr f fs)) a = some_end (then_expr f fs) (expr_end e a + 1 + 1 + 1)

  pub links_end : Links → ℕ → ℕ
  links_end no_link a = a
  links_end (link op arg at rest) a = links_end rest (expr_end arg a + 1)

  -- the deltas of a `when`, the last one first, each with an Enter
  pub hypos_end : Hypos → ℕ → ℕ
  hypos_end no_hypo a = a
  hypos_end (hypo d at rest) a = expr_end d (hypos_end rest a) + 1

  -- how many deltas there are, each with a Leave
  pub hypos_count : Hypos → ℕ
  hypos_count no_hypo = 0
  hypos_count (hypo d at rest) = suc (hypos_count rest)

abbrev mutual
  pub command_end : Command → ℕ → ℕ
  command_end (set_slot i e) a = expr_end e a + 1
  command_end (if_arms arms other) a = block_end other (arms_end arms a)
  -- the condition, Unless, the block, Back
  command_end (while c block) a = block_end block (expr_end c a + 1) + 1
  -- the operand, Walk, Next, the block, Back, Drop
  command_end (foreach i of block) a = block_end block (expr_end of a + 1 + 1) + 1 + 1
  command_end (print e shape) a = expr_end e a + 1
  command_end (apply d at) a = expr_end d a + 1
  -- Commit, and of a label Push and Print
  command_end (commit None) a = a + 1
  command_end (commit (Some label)) a = a + 1 + 1 + 1
  command_end rollback a = a + 1
  command_end (assert c at) a = expr_end c a + 1
  command_end return a = a + 1
  command_end (return_value e) a = expr_end e a + 1
  command_end (call_proc k args) a = exprs_end args a + 1

  pub block_end : Block → ℕ → ℕ
  block_end no_stmt a = a
  block_end (then_stmt c rest) a = block_end rest (command_end c a)

  -- where the else block begins: each arm is its condition, Unless, its block and Jump
  pub arms_end : Arms → ℕ → ℕ
  arms_end no_arm a = a
  arms_end (arm c block rest) a = arms_end rest (block_end block (expr_end c a + 1) + 1)

-- a func ends with its block; behind a proc's block stands a Ret
abbrev pub body_end : Bool → Block → ℕ → ℕ
body_end true block a = block_end block a
body_end false block a = block_end block a + 1

abbrev pub bodies_end : List Body_tree → ℕ → ℕ
bodies_end [] a = a
bodies_end (b ∷ bodies) a = bodies_end bodies (body_end b.func b.block a)

-- the number of instructions; main, the first body, ends with a Halt
abbrev pub size_of : Program_tree → ℕ
size_of p = size_from p.bodies
  where
    size_from : List Body_tree → ℕ
    size_from [] = 0
    size_from (b ∷ bodies) = bodies_end bodies (block_end b.block 0 + 1)
