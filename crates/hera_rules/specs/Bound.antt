-- A program bound to a catalogue: it has the catalogue's relations and numbers.
use Rattle.std.specs.Prelude.{◌≡◌, ℕ, zero, suc, List, [], ◌∷◌, map, Option, Some, None, slice_get}
use Rattle.hera_meaning.specs.declared.scalars.RelId.{RelId}
use Rattle.hera_meaning.specs.declared.schemas.RelDecl.{RelDecl}
use Rattle.hera_meaning.specs.declared.trees.Op.{Op}
use Rattle.hera_meaning.specs.declared.trees.Op.TheVariants.{Atom, Bulk, Ins, Del}
use Rattle.hera_meaning.specs.Trees.{Expr, constant, local, relation, prim, chain, and_all, or_any, when, select, map_each, call, host, Exprs, no_more, then_expr, Links, no_link, link, Hypos, no_hypo, hypo, Command, set_slot, if_arms, while, foreach, print, apply, commit, rollback, assert, return, return_value, call_proc, Block, no_stmt, then_stmt, Arms, no_arm, arm, Body_tree, Program_tree}
use Rattle.hera_rules.specs.Environments.{relation_named}

-- the name of a relation, none past the last
abbrev pub name_at : List RelDecl → ℕ → List ℕ
name_at [] r = []
name_at (d ∷ rels) zero = d.name
name_at (d ∷ rels) (suc r) = name_at rels r

abbrev pub number_or : Option ℕ → ℕ
number_or (Some r) = r
number_or None = 0

-- the catalogue's number of the relation that a program numbers r, by its name
abbrev pub number_in : (own catalogue : List RelDecl) → ℕ → ℕ
number_in own catalogue r = number_or (relation_named (name_at own r) catalogue)

module _ (own catalogue : List RelDecl) where
  abbrev pub bound_id : RelId → RelId
  bound_id r = record { 0 = number_in own catalogue r.0 }

  abbrev pub bound_op : Op → Op
  bound_op (Atom sign r) = Atom sign (bound_id r)
  bound_op (Bulk sign r) = Bulk sign (bound_id r)
  bound_op (Ins r) = Ins (bound_id r)
  bound_op (Del r) = Del (bound_id r)
  bound_op op = op

  abbrev mutual
    pub bound_expr : Expr → Expr
    bound_expr (constant c) = constant c
    bound_expr (local i) = local i
    bound_expr (relation r) = relation (number_in own catalogue r)
    bound_expr (prim op args at) = prim (bound_op op) (bound_exprs args) at
    bound_expr (chain first links) = chain (bound_expr first) (bound_links links)
    bound_expr (and_all args) = and_all (bound_exprs args)
    bound_expr (or_any args) = or_any (bound_exprs args)
    bound_expr (when body hypos) = when (bound_expr body) (bound_hypos hypos)
    bound_expr (select i of body) = select i (bound_expr of) (bound_expr body)
    bound_expr (map_each i of body) = map_each i (bound_expr of) (bound_expr body)
    bound_expr (call k args) = call k (bound_exprs args)
    bound_expr (host h args) = host h (bound_exprs args)

    pub bound_exprs : Exprs → Exprs
    bound_exprs no_more = no_more
    bound_exprs (then_expr e es) = then_expr (bound_expr e) (bound_exprs es)

    pub bound_links : Links → Links
    bound_links no_link = no_link
    bound_links (link op arg at rest) = link (bound_op op) (bound_expr arg) at (bound_links rest)

    pub bound_hypos : Hypos → Hypos
    bound_hypos no_hypo = no_hypo
    bound_hypos (hypo d at rest) = hypo (bound_expr d) at (bound_hypos rest)

  abbrev mutual
    pub bound_command : Command → Command
    bound_command (set_slot i e) = set_slot i (bound_expr e)
    bound_command (if_arms arms other) = if_arms (bound_arms arms) (bound_block other)
    bound_command (while c block) = while (bound_expr c) (bound_block block)
    bound_command (foreach i of block) = foreach i (bound_expr of) (bound_block block)
    bound_command (print e shape) = print (bound_expr e) shape
    bound_command (apply d at) = apply (bound_expr d) at
    bound_command (commit label) = commit label
    bound_command rollback = rollback
    bound_command (assert c at) = assert (bound_expr c) at
    bound_command return = return
    bound_command (return_value e) = return_value (bound_expr e)
    bound_command (call_proc k args) = call_proc k (bound_exprs args)

    pub bound_block : Block → Block
    bound_block no_stmt = no_stmt
    bound_block (then_stmt c rest) = then_stmt (bound_command c) (bound_block rest)

    pub bound_arms : Arms → Arms
    bound_arms no_arm = no_arm
    bound_arms (arm c block rest) = arm (bound_expr c) (bound_block block) (bound_arms rest)

  abbrev pub bound_body : Body_tree → Body_tree
  bound_body b = record b { block = bound_block b.block }

-- the program with the catalogue's relations and numbers
abbrev pub bound : Program_tree → List RelDecl → Program_tree
bound p catalogue = record { relations = catalogue; bodies = map (bound_body p.relations catalogue) p.bodies }

-- the declared relation is not in the catalogue with an equal schema
abbrev pub Lacks : List RelDecl → RelDecl → Type 0
Lacks catalogue d = (r : ℕ) (e : RelDecl) → slice_get catalogue r ≡ Some e → e.name ≡ d.name → e.schema ≡ d.schema → ⊥

-- the declared relation is in the catalogue with an equal schema
abbrev pub Has : List RelDecl → RelDecl → Type 0
Has catalogue d = (r : ℕ) × (e : RelDecl) × (slice_get catalogue r ≡ Some e) × (e.name ≡ d.name) × (e.schema ≡ d.schema)

-- the first declared relation that the catalogue lacks has this name
pub data Differs (catalogue : List RelDecl) : List RelDecl → List ℕ → Type 0 where
  differs_here : {d : RelDecl} {rels : List RelDecl} → Lacks catalogue d → Differs catalogue (d ∷ rels) d.name
  differs_later : {d : RelDecl} {rels : List RelDecl} {name : List ℕ} → Has catalogue d → Differs catalogue rels name → Differs catalogue (d ∷ rels) name
