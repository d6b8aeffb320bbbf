-- How long code is: a bound that does not depend on where it begins.
use Rattle.std.proofs.Common.{ℕ, ◌≤◌, ◌+◌, List, [], ◌∷◌, Some, None, arith, Bool, true, false}
use Rattle.hera_meaning.specs.Trees.{Expr, constant, local, relation, prim, chain, and_all, or_any, when, select, map_each, call, host, Exprs, no_more, then_expr, Links, no_link, link, Hypos, no_hypo, hypo, Command, set_slot, if_arms, while, foreach, print, apply, commit, rollback, assert, return, return_value, call_proc, Block, no_stmt, then_stmt, Arms, no_arm, arm, Body_tree}
use Rattle.hera_meaning.specs.Addresses.{expr_end, exprs_end, every_last, some_end, links_end, hypos_end, hypos_count, command_end, block_end, arms_end, body_end, bodies_end}

abbrev mutual
  pub bound : Expr → ℕ
  bound (constant c) = 1
  bound (local i) = 1
  bound (relation r) = 1
  bound (prim op args at) = 1 + bound_all args
  bound (chain first links) = bound first + bound_links links
  bound (and_all args) = 1 + bound_all args
  bound (or_any args) = bound_all args
  bound (when body hypos) = bound body + bound_hypos hypos
  bound (select i of body) = 5 + bound of + bound body
  bound (map_each i of body) = 5 + bound of + bound body
  bound (call k args) = 1 + bound_all args
  bound (host h args) = 1 + bound_all args

  pub bound_all : Exprs → ℕ
  bound_all no_more = 0
  bound_all (then_expr e es) = 3 + bound e + bound_all es

  pub bound_links : Links → ℕ
  bound_links no_link = 0
  bound_links (link op arg at rest) = 1 + bound arg + bound_links rest

  pub bound_hypos : Hypos → ℕ
  bound_hypos no_hypo = 0
  bound_hypos (hypo d at rest) = 2 + bound d + bound_hypos rest

abbrev mutual
  pub bound_command : Command → ℕ
  bound_command (set_slot i e) = 1 + bound e
  bound_command (if_arms arms other) = bound_arms arms + bound_block other
  bound_command (while c block) = 2 + bound c + bound_block block
  bound_command (foreach i of block) = 4 + bound of + bound_block block
  bound_command (print e shape) = 1 + bound e
  bound_command (apply d at) = 1 + bound d
  bound_command (commit label) = 3
  bound_command rollback = 1
  bound_command (assert c at) = 1 + bound c
  bound_command return = 1
  bound_command (return_value e) = 1 + bound e
  bound_command (call_proc k args) = 1 + bound_all args

  pub bound_block : Block → ℕ
  bound_block no_stmt = 0
  bound_block (then_stmt c rest) = bound_command c + bound_block rest

  pub bound_arms : Arms → ℕ
  bound_arms no_arm = 0
  bound_arms (arm c block rest) = 2 + bound c + bound_block block + bound_arms rest

mutual
  pub end_bound : (e : Expr) (a : ℕ) → expr_end e a ≤ a + bound e
  end_bound (constant c) a = omega arith
  end_bound (local i) a = omega arith
  end_bound (relation r) a = omega arith
  end_bound (prim op args at) a = let h = exprs_bound args a in omega (arith, h)
  end_bound (chain first links) a = let h = end_bound first a in let k = links_bound links (expr_end first a) in omega (arith, h, k)
  end_bound (and_all args) a = let h = every_bound args a in omega (arith, h)
  end_bound (or_any args) a = let h = some_bound args a in omega (arith, h)
  end_bound (when body hypos) a = let h = hypos_bound hypos a in let k = end_bound body (hypos_end hypos a) in omega (arith, h, k)
  end_bound (select i of body) a = let h = end_bound of a in let k = end_bound body (expr_end of a + 1 + 1) in omega (arith, h, k)
  end_bound (map_each i of body) a = let h = end_bound of a in let k = end_bound body (expr_end of a + 1 + 1) in omega (arith, h, k)
  end_bound (call k args) a = let h = exprs_bound args a in omega (arith, h)
  end_bound (host h args) a = let h = exprs_bound args a in omega (arith, h)

  pub exprs_bound : (es : Exprs) (a : ℕ) → exprs_end es a ≤ a + bound_all es
  exprs_bound no_more a = omega arith
  exprs_bound (then_expr e es) a = let h = end_bound e a in let k = exprs_bound es (expr_end e a) in omega (arith, h, k)

  every_bound : (es : Exprs) (a : ℕ) → every_last es a ≤ a + bound_all es
  every_bound no_more a = omega arith
  every_bound (then_expr e no_more) a = let h = end_bound e a in omega (arith, h)
  every_bound (then_expr e (then_expr f fs)) a = let h = end_bound e a in let k = every_bound (then_expr f fs) (expr_end e a + 1) in omega (arith, h, k)

  some_bound : (es : Exprs) (a : ℕ) → some_end es a ≤ a + bound_all es
  some_bound no_more a = omega arith
  some_bound (then_expr e no_more) a = let h = end_bound e a in omega (arith, h)
  some_bound (then_expr e (then_expr f fs)) a = let h = end_bound e a in let k = some_bound (then_expr f fs) (expr_end e a + 1 + 1 + 1) in omega (arith, h, k)

  links_bound : (ls : Links) (a : ℕ) → links_end ls a ≤ a + bound_links ls
  links_bound no_link a = omega arith
  links_bound (link op arg at rest) a = let h = end_bound arg a in let k = links_bound rest (expr_end arg a + 1) in omega (arith, h, k)

  -- each delta has an Enter before the body and a Leave behind it
  hypos_bound : (hs : Hypos) (a : ℕ) → hypos_end hs a + hypos_count hs ≤ a + bound_hypos hs
  hypos_bound no_hypo a = omega arith
  hypos_bound (hypo d at rest) a = let h = hypos_bound rest a in let k = end_bound d (hypos_end rest a) in omega (arith, h, k)

mutual
  pub command_bound : (c : Command) (a : ℕ) → command_end c a ≤ a + bound_command c
  command_bound (set_slot i e) a = let h = end_bound e a in omega (arith, h)
  command_bound (if_arms arms other) a = let h = arms_bound arms a in let k = block_bound other (arms_end arms a) in omega (arith, h, k)
  command_bound (while c block) a = let h = end_bound c a in let k = block_bound block (expr_end c a + 1) in omega (arith, h, k)
  command_bound (foreach i of block) a = let h = end_bound of a in let k = block_bound block (expr_end of a + 1 + 1) in omega (arith, h, k)
  command_bound (print e shape) a = let h = end_bound e a in omega (arith, h)
  command_bound (apply d at) a = let h = end_bound d a in omega (arith, h)
  command_bound (commit None) a = omega arith
  command_bound (commit (Some label)) a = omega arith
  command_bound rollback a = omega arith
  command_bound (assert c at) a = let h = end_bound c a in omega (arith, h)
  command_bound return a = omega arith
  command_bound (return_value e) a = let h = end_bound e a in omega (arith, h)
  command_bound (call_proc k args) a = let h = exprs_bound args a in omega (arith, h)

  pub block_bound : (b : Block) (a : ℕ) → block_end b a ≤ a + bound_block b
  block_bound no_stmt a = omega arith
  block_bound (then_stmt c rest) a = let h = command_bound c a in let k = block_bound rest (command_end c a) in omega (arith, h, k)

  arms_bound : (ar : Arms) (a : ℕ) → arms_end ar a ≤ a + bound_arms ar
  arms_bound no_arm a = omega arith
  arms_bound (arm c block rest) a =
      let h = end_bound c a in let k = block_bound block (expr_end c a + 1) in let j = arms_bound rest (block_end block (expr_end c a + 1) + 1) in omega (arith, h, k, j)

abbrev pub bound_bodies : List Body_tree → ℕ
bound_bodies [] = 0
bound_bodies (b ∷ bodies) = 1 + bound_block b.block + bound_bodies bodies

body_bound : (func : Bool) (b : Block) (a : ℕ) → body_end func b a ≤ a + 1 + bound_block b
body_bound true b a = let h = block_bound b a in omega (arith, h)
body_bound false b a = let h = block_bound b a in omega (arith, h)

bodies_bound : (bodies : List Body_tree) (a : ℕ) → bodies_end bodies a ≤ a + bound_bodies bodies
bodies_bound [] a = omega arith
bodies_bound (b ∷ bodies) a = let h = body_bound b.func b.block a in let k = bodies_bound bodies (body_end b.func b.block a) in omega (arith, h, k)

pub size_bound : (b : Block) (bodies : List Body_tree) → bodies_end bodies (block_end b 0 + 1) ≤ 1 + bound_block b + bound_bodies bodies
size_bound b bodies = let h = block_bound b 0 in let k = bodies_bound bodies (block_end b 0 + 1) in omega (arith, h, k)
