-- From core trees to their plain values.
use Rattle.std.specs.Prelude.{List, [], ◌∷◌, map, Option, Some, None}
use Rattle.hera_meaning.specs.declared.trees.Core.{Core, Row_of-Core, end_of-Core, more_of-Core, Row_of-Link, end_of-Link, more_of-Link, Row_of-Hypo, end_of-Hypo, more_of-Hypo}
use Rattle.hera_meaning.specs.declared.trees.Core.TheVariants.{Const, Local, Rel, Prim', Chain', And', Or', When', Select', Map', Call', Host'}
use Rattle.hera_meaning.specs.declared.trees.Stmt.TheVariants.{Set, If', While', Foreach', Print, Apply, Commit, Rollback, Assert, Return, Call}
use Rattle.hera_meaning.specs.declared.trees.Stmt.{Stmt, Row_of-Stmt, end_of-Stmt, more_of-Stmt, Row_of-Arm, end_of-Arm, more_of-Arm}
use Rattle.hera_meaning.specs.declared.trees.Link.{Link}
use Rattle.hera_meaning.specs.declared.trees.Hypo.{Hypo}
use Rattle.hera_meaning.specs.declared.trees.Arm.{Arm}
use Rattle.hera_meaning.specs.declared.trees.Body.{Body}
use Rattle.hera_meaning.specs.declared.trees.Program.{Program}
use Rattle.hera_meaning.specs.Trees.{Expr, constant, local, relation, prim, chain, and_all, or_any, when, select, map_each, call, host, Exprs, no_more, then_expr, Links, no_link, link, Hypos, no_hypo, hypo, Command, set_slot, if_arms, while, foreach, print, apply, commit, rollback, assert, return, return_value, call_proc, Block, no_stmt, then_stmt, Arms, no_arm, arm, Body_tree, Program_tree}

unfoldable mutual
  pub expr_of : Core → Expr
  expr_of (Const c) = constant c
  expr_of (Local i) = local i
  expr_of (Rel r) = relation r.0
  expr_of (Prim' op shape args at) = prim op (exprs_of args) at
  expr_of (Chain' p first shape links) = chain (expr_of first) (links_of links)
  expr_of (And' shape args) = and_all (exprs_of args)
  expr_of (Or' shape args) = or_any (exprs_of args)
  expr_of (When' p body shape hypos) = when (expr_of body) (hypos_of hypos)
  expr_of (Select' i p of q body) = select i (expr_of of) (expr_of body)
  expr_of (Map' i p of q body) = map_each i (expr_of of) (expr_of body)
  expr_of (Call' k shape args) = call k (exprs_of args)
  expr_of (Host' h shape args) = host h (exprs_of args)

  pub exprs_of : {m : _} → Row_of-Core m → Exprs
  exprs_of end_of-Core = no_more
  exprs_of (more_of-Core e rest) = then_expr (expr_of e) (exprs_of rest)

  pub links_of : {m : _} → Row_of-Link m → Links
  links_of end_of-Link = no_link
  links_of (more_of-Link op arg at rest) = link op (expr_of arg) at (links_of rest)

  pub hypos_of : {m : _} → Row_of-Hypo m → Hypos
  hypos_of end_of-Hypo = no_hypo
  hypos_of (more_of-Hypo delta at rest) = hypo (expr_of delta) at (hypos_of rest)

-- expressions in a Vec
abbrev pub exprs_in : List Core → Exprs
exprs_in [] = no_more
exprs_in (e ∷ es) = then_expr (expr_of e) (exprs_in es)

-- links and deltas in a Vec
abbrev pub links_in : List Link → Links
links_in [] = no_link
links_in (l ∷ ls) = link l.op (expr_of l.arg) l.at (links_in ls)

abbrev pub hypos_in : List Hypo → Hypos
hypos_in [] = no_hypo
hypos_in (h ∷ hs) = hypo (expr_of h.delta) h.at (hypos_in hs)

abbrev pub return_of : Option Core → Command
return_of None = return
return_of (Some e) = return_value (expr_of e)

unfoldable mutual
  pub command_of : Stmt → Command
  command_of (Set i e) = set_slot i (expr_of e)
  command_of (If' shape arms shape' other) = if_arms (arms_of arms) (block_of other)
  command_of (While' c shape block) = while (expr_of c) (block_of block)
  command_of (Foreach' i c shape block) = foreach i (expr_of c) (block_of block)
  command_of (Print c s) = print (expr_of c) s
  command_of (Apply c at) = apply (expr_of c) at
  command_of (Commit label) = commit label
  command_of Rollback = rollback
  command_of (Assert c at) = assert (expr_of c) at
  command_of (Return c) = return_of c
  command_of (Call k args) = call_proc k (exprs_in args.items)

  pub block_of : {m : _} → Row_of-Stmt m → Block
  block_of end_of-Stmt = no_stmt
  block_of (more_of-Stmt s rest) = then_stmt (command_of s) (block_of rest)

  pub arms_of : {m : _} → Row_of-Arm m → Arms
  arms_of end_of-Arm = no_arm
  arms_of (more_of-Arm c shape block rest) = arm (expr_of c) (block_of block) (arms_of rest)

-- statements in a Vec
abbrev pub block_in : List Stmt → Block
block_in [] = no_stmt
block_in (s ∷ rest) = then_stmt (command_of s) (block_in rest)

-- arms in a Vec
abbrev pub arms_in : List Arm → Arms
arms_in [] = no_arm
arms_in (a ∷ rest) = arm (expr_of a.cond) (block_in a.block.items) (arms_in rest)

abbrev pub body_of : Body → Body_tree
body_of b = record { params = b.params; slots = b.slots; func = b.func; block = block_in b.block.items }

abbrev pub program_of : Program → Program_tree
program_of p = record { relations = p.relations.items; bodies = map body_of p.bodies.items }
