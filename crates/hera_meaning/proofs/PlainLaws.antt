-- The plain value of a core tree that is matched or made, for each variant.
use Rattle.std.proofs.Common.{◌≡◌, ℕ, List, Option, refl, sym, ap, ◌∙◌, rules}
use Rattle.std.specs.Prelude.{Vec, Box}
use Rattle.std.specs.declared.alloc.Global.{Global}
use Rattle.hera_meaning.specs.declared.scalars.RelId.{RelId}
use Rattle.hera_meaning.specs.declared.trees.Op.{Op}
use Rattle.hera_meaning.specs.declared.trees.Const.{Const}
use Rattle.hera_meaning.specs.declared.trees.Shape.{Shape}
use Rattle.hera_meaning.specs.declared.trees.Link.{Link}
use Rattle.hera_meaning.specs.declared.trees.Hypo.{Hypo}
use Rattle.hera_meaning.specs.declared.trees.Arm.{Arm}
use Rattle.hera_meaning.specs.declared.trees.Core.{Core, Row_of-Core, end_of-Core, more_of-Core, Row_of-Link, end_of-Link, more_of-Link, Row_of-Hypo, end_of-Hypo, more_of-Hypo, items-the_row-Core, items-the_row-Link, items-the_row-Hypo}
use Rattle.hera_meaning.specs.declared.trees.Core.TheViews as view
use Rattle.hera_meaning.specs.declared.trees.Core.TheVariants as variant
use Rattle.hera_meaning.specs.declared.trees.Core.TheViews.{the_lemmas as core_views}
use Rattle.hera_meaning.specs.declared.trees.Stmt.{Stmt, Row_of-Stmt, end_of-Stmt, more_of-Stmt, Row_of-Arm, end_of-Arm, more_of-Arm, items-the_row-Stmt, items-the_row-Arm, items_shown-the_row-Stmt-0}
use Rattle.hera_meaning.specs.declared.trees.Stmt.TheViews as stmt_view
use Rattle.hera_meaning.specs.declared.trees.Stmt.TheVariants as stmt_variant
use Rattle.hera_meaning.specs.declared.trees.Stmt.TheViews.{the_lemmas as stmt_views}
use Rattle.hera_meaning.specs.Trees.{constant, local, relation, prim, chain, and_all, or_any, when, select, map_each, call, host, then_expr, link, hypo, set_slot, if_arms, while, foreach, print, apply, commit, rollback, assert, call_proc, then_stmt, arm}
use Rattle.hera_meaning.specs.Plain.{expr_of, exprs_of, exprs_in, links_of, links_in, hypos_of, hypos_in, return_of, command_of, block_of, block_in, arms_of, arms_in}

-- ---- expressions

pub exprs_of-row : (n : _) (k : Row_of-Core n) → exprs_of k ≡ exprs_in (items-the_row-Core n k)
unfolding exprs_of
exprs_of-row n end_of-Core = refl
exprs_of-row n (more_of-Core e rest) = ap (λ es. then_expr (expr_of e) es) (exprs_of-row _ rest)

pub links_of-row : (n : _) (k : Row_of-Link n) → links_of k ≡ links_in (items-the_row-Link n k)
unfolding links_of
links_of-row n end_of-Link = refl
links_of-row n (more_of-Link op arg at rest) = ap (λ ls. link op (expr_of arg) at ls) (links_of-row _ rest)

pub hypos_of-row : (n : _) (k : Row_of-Hypo n) → hypos_of k ≡ hypos_in (items-the_row-Hypo n k)
unfolding hypos_of
hypos_of-row n end_of-Hypo = refl
hypos_of-row n (more_of-Hypo d at rest) = ap (λ hs. hypo (expr_of d) at hs) (hypos_of-row _ rest)

pub expr_of-Const : (c : Const) → expr_of (variant.Const c) ≡ constant c
unfolding expr_of
expr_of-Const c = refl

pub expr_of-Local : (i : ℕ) → expr_of (variant.Local i) ≡ local i
unfolding expr_of
expr_of-Local i = refl

pub expr_of-Rel : (r : RelId) → expr_of (variant.Rel r) ≡ relation r.0
unfolding expr_of
expr_of-Rel r = refl

pub expr_of-Prim : (op : Op) (args : Vec Core Global) (at : ℕ) → expr_of (view.Prim op args at) ≡ prim op (exprs_in args.items) at
unfolding expr_of
expr_of-Prim op args at = search (rules, core_views, exprs_of-row)

pub expr_of-Chain : (first : Box Core Global) (links : Vec Link Global) → expr_of (view.Chain first links) ≡ chain (expr_of first.value) (links_in links.items)
unfolding expr_of
expr_of-Chain first links = search (rules, core_views, links_of-row)

pub expr_of-And : (args : Vec Core Global) → expr_of (view.And args) ≡ and_all (exprs_in args.items)
unfolding expr_of
expr_of-And args = search (rules, core_views, exprs_of-row)

pub expr_of-Or : (args : Vec Core Global) → expr_of (view.Or args) ≡ or_any (exprs_in args.items)
unfolding expr_of
expr_of-Or args = search (rules, core_views, exprs_of-row)

pub expr_of-When : (body : Box Core Global) (hypos : Vec Hypo Global) → expr_of (view.When body hypos) ≡ when (expr_of body.value) (hypos_in hypos.items)
unfolding expr_of
expr_of-When body hypos = search (rules, core_views, hypos_of-row)

pub expr_of-Select : (i : ℕ) (of body : Box Core Global) → expr_of (view.Select i of body) ≡ select i (expr_of of.value) (expr_of body.value)
unfolding expr_of
expr_of-Select i of body = refl

pub expr_of-Map : (i : ℕ) (of body : Box Core Global) → expr_of (view.Map i of body) ≡ map_each i (expr_of of.value) (expr_of body.value)
unfolding expr_of
expr_of-Map i of body = refl

pub expr_of-Call : (k : ℕ) (args : Vec Core Global) → expr_of (view.Call k args) ≡ call k (exprs_in args.items)
unfolding expr_of
expr_of-Call k args = search (rules, core_views, exprs_of-row)

pub expr_of-Host : (h : ℕ) (args : Vec Core Global) → expr_of (view.Host h args) ≡ host h (exprs_in args.items)
unfolding expr_of
expr_of-Host h args = search (rules, core_views, exprs_of-row)

-- ---- statements

pub block_of-row : (n : _) (k : Row_of-Stmt n) → block_of k ≡ block_in (items-the_row-Stmt n k)
unfolding block_of
block_of-row n end_of-Stmt = refl
block_of-row n (more_of-Stmt s rest) = ap (λ b. then_stmt (command_of s) b) (block_of-row _ rest)

pub command_of-Set : (i : ℕ) (e : Core) → command_of (stmt_variant.Set i e) ≡ set_slot i (expr_of e)
unfolding command_of
command_of-Set i e = refl

pub command_of-Print : (e : Core) (shape : Shape) → command_of (stmt_variant.Print e shape) ≡ print (expr_of e) shape
unfolding command_of
command_of-Print e shape = refl

pub command_of-Apply : (d : Core) (at : ℕ) → command_of (stmt_variant.Apply d at) ≡ apply (expr_of d) at
unfolding command_of
command_of-Apply d at = refl

pub command_of-Commit : (label : Option (List ℕ)) → command_of (stmt_variant.Commit label) ≡ commit label
unfolding command_of
command_of-Commit label = refl

pub command_of-Rollback : command_of stmt_variant.Rollback ≡ rollback
unfolding command_of
command_of-Rollback = refl

pub command_of-Assert : (c : Core) (at : ℕ) → command_of (stmt_variant.Assert c at) ≡ assert (expr_of c) at
unfolding command_of
command_of-Assert c at = refl

pub command_of-Return : (c : Option Core) → command_of (stmt_variant.Return c) ≡ return_of c
unfolding command_of
command_of-Return c = refl

pub command_of-Call : (k : ℕ) (args : Vec Core Global) → command_of (stmt_variant.Call k args) ≡ call_proc k (exprs_in args.items)
unfolding command_of
command_of-Call k args = refl

pub command_of-While : (c : Core) (block : Vec Stmt Global) → command_of (stmt_view.While c block) ≡ while (expr_of c) (block_in block.items)
unfolding command_of
command_of-While c block = search (rules, stmt_views, block_of-row)

pub command_of-Foreach : (i : ℕ) (c : Core) (block : Vec Stmt Global) → command_of (stmt_view.Foreach i c block) ≡ foreach i (expr_of c) (block_in block.items)
unfolding command_of
command_of-Foreach i c block = search (rules, stmt_views, block_of-row)

pub arms_of-row : (n : _) (k : Row_of-Arm n) → arms_of k ≡ arms_in (items-the_row-Arm n k)
unfolding arms_of
arms_of-row n end_of-Arm = refl
arms_of-row n (more_of-Arm c shape block rest) =
    let ih : arms_of rest ≡ arms_in (items-the_row-Arm _ rest) = arms_of-row _ rest in
    let b : block_of block ≡ block_in (items-the_row-Stmt _ block) = block_of-row _ block in
    λ i. arm (expr_of c) ((b ∙ ap block_in (sym (items_shown-the_row-Stmt-0 shape block))) i) (ih i)

pub command_of-If : (arms : Vec Arm Global) (other : Vec Stmt Global) → command_of (stmt_view.If arms other) ≡ if_arms (arms_in arms.items) (block_in other.items)
unfolding command_of
command_of-If arms other = search (rules, stmt_views, arms_of-row, block_of-row)

pub ruleset plain = (expr_of-Const, expr_of-Local, expr_of-Rel, expr_of-Prim, expr_of-Chain, expr_of-And, expr_of-Or, expr_of-When, expr_of-Select, expr_of-Map, expr_of-Call, expr_of-Host, command_of-Set, command_of-Print, command_of-Apply, command_of-Commit, command_of-Rollback, command_of-Assert, command_of-Return, command_of-Call, command_of-While, command_of-Foreach, command_of-If)
