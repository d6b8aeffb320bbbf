-- Core trees as plain values: a Vec as the list of its items, a Box as its content.
use Rattle.std.specs.Prelude.{ℕ, Bool, List, Option}
use Rattle.hera_meaning.specs.declared.schemas.RelDecl.{RelDecl}
use Rattle.hera_meaning.specs.declared.trees.Op.{Op}
use Rattle.hera_meaning.specs.declared.trees.Const.{Const}
use Rattle.hera_meaning.specs.declared.trees.Shape.{Shape}

mutual
  -- an expression
  pub data Expr : Type 0 where
    constant : Const → Expr
    local : ℕ → Expr
    relation : ℕ → Expr
    prim : (op : Op) (args : Exprs) (at : ℕ) → Expr
    chain : (first : Expr) (links : Links) → Expr
    and_all : Exprs → Expr
    or_any : Exprs → Expr
    when : (body : Expr) (hypos : Hypos) → Expr
    select : (i : ℕ) (of body : Expr) → Expr
    map_each : (i : ℕ) (of body : Expr) → Expr
    call : (k : ℕ) (args : Exprs) → Expr
    host : (h : ℕ) (args : Exprs) → Expr

  -- expressions in a row
  pub data Exprs : Type 0 where
    no_more : Exprs
    then_expr : Expr → Exprs → Exprs

  -- the links of a chain: each an operation, its second operand and the place of a trap
  pub data Links : Type 0 where
    no_link : Links
    link : (op : Op) (arg : Expr) (at : ℕ) (rest : Links) → Links

  -- the deltas of a `when`, each with the place of a trap
  pub data Hypos : Type 0 where
    no_hypo : Hypos
    hypo : (delta : Expr) (at : ℕ) (rest : Hypos) → Hypos

mutual
  -- a statement
  pub data Command : Type 0 where
    set_slot : (i : ℕ) (value : Expr) → Command
    if_arms : (arms : Arms) (other : Block) → Command
    while : (cond : Expr) (block : Block) → Command
    foreach : (i : ℕ) (of : Expr) (block : Block) → Command
    print : (value : Expr) (shape : Shape) → Command
    apply : (delta : Expr) (at : ℕ) → Command
    commit : (label : Option (List ℕ)) → Command
    rollback : Command
    assert : (cond : Expr) (at : ℕ) → Command
    return : Command
    return_value : Expr → Command
    call_proc : (k : ℕ) (args : Exprs) → Command

  -- statements in a row
  pub data Block : Type 0 where
    no_stmt : Block
    then_stmt : Command → Block → Block

  -- the arms of an `if`: each a condition and its block
  pub data Arms : Type 0 where
    no_arm : Arms
    arm : (cond : Expr) (block : Block) (rest : Arms) → Arms

-- a body
pub record Body_tree : Type 0 where
  pub params : ℕ
  pub slots : ℕ
  pub func : Bool
  pub block : Block

-- a program
pub record Program_tree : Type 0 where
  pub relations : List RelDecl
  pub bodies : List Body_tree
