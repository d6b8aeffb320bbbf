-- Lists of phrases that are renumbered one by one.
use Rattle.std.proofs.Common.{◌≡◌, ℕ, zero, suc, ◌<◌, ◌≤◌, ◌+◌, List, [], ◌∷◌, length, get_or, set, refl, sym, ap, ◌∙◌, subst, arith, map, get_or-set_same, get_or-set_other, length-set, ⊎_elim}
use Rattle.std.proofs.lemmas.Bool.{cases_lt}
use Rattle.hera_meaning.specs.declared.schemas.RelDecl.{RelDecl}
use Rattle.hera_meaning.specs.declared.trees.Core.{Core}
use Rattle.hera_meaning.specs.declared.trees.Link.{Link}
use Rattle.hera_meaning.specs.declared.trees.Hypo.{Hypo}
use Rattle.hera_meaning.specs.declared.trees.Stmt.{Stmt}
use Rattle.hera_meaning.specs.declared.trees.Arm.{Arm}
use Rattle.hera_meaning.specs.declared.trees.Body.{Body}
use Rattle.hera_meaning.specs.declared.trees.Op.{Op}
use Rattle.hera_meaning.specs.Trees.{then_expr, link, hypo, then_stmt, arm}
use Rattle.hera_meaning.specs.Plain.{expr_of, exprs_in, links_in, hypos_in, command_of, block_in, arms_in, body_of}
use Rattle.hera_rules.specs.Bound.{bound_op, bound_expr, bound_exprs, bound_links, bound_hypos, bound_command, bound_block, bound_arms, bound_body}

-- before this place the items are changed as asked, and from it on they are as they were
pub record ChangedUpTo {A : Type 0} (IsChanged : A → A → Type 0) (old new : List A) (i : ℕ) : Type 0 where
  pub many : length new ≡ length old
  pub before : (k : ℕ) (d : A) → k < i → IsChanged (get_or old k d) (get_or new k d)
  pub later : (k : ℕ) (d : A) → i ≤ k → get_or new k d ≡ get_or old k d

-- one more item is changed
pub one_changed : {A : Type 0} (R : A → A → Type 0) (old new : List A) (i : ℕ) (y d : A) → ChangedUpTo R old new i → i < length new → R (get_or old i d) y → ChangedUpTo R old (set new i y) (i + 1)
one_changed R old new i y d h l r = record {
  many = length-set new i y ∙ h.many;
  before = λ k e m. ⊎_elim
      (λ lt. let ne : k ≡ i → ⊥ = λ q. absurd (omega (arith, q, lt)) in subst (λ (z : _). R (get_or old k e) z) (sym (get_or-set_other new i k y e ne)) (h.before k e lt))
      (λ ge. let same : i ≡ k = omega (arith, m, ge) in
      subst (λ k. R (get_or old k e) (get_or (set new i y) k e)) same
      (subst (λ (z : _). R (get_or old i e) z) (sym (get_or-set_same new i y e l)) (subst (λ (z : _). R z y) (default old i d e (let n = h.many in omega (arith, n, l))) r)))
      (cases_lt k i);
  later = λ k e m. let ne : k ≡ i → ⊥ = λ q. absurd (omega (arith, q, m)) in get_or-set_other new i k y e ne ∙ h.later k e (omega (arith, m));
}
  where
    default : {A : Type 0} (xs : List A) (i : ℕ) (d e : A) → i < length xs → get_or xs i d ≡ get_or xs i e
    default [] i d e l = absurd (omega arith)
    default (x ∷ xs) zero d e l = refl
    default (x ∷ xs) (suc i) d e l = default xs i d e (omega arith)

module _ (own catalogue : List RelDecl) where
  abbrev pub CoreIsBound : Core → Core → Type 0
  CoreIsBound a b = expr_of b ≡ bound_expr own catalogue (expr_of a)

  pub record LinkIsBound (a b : Link) : Type 0 where
    pub op : b.op ≡ bound_op own catalogue a.op
    pub arg : expr_of b.arg ≡ bound_expr own catalogue (expr_of a.arg)
    pub at : b.at ≡ a.at

  pub record HypoIsBound (a b : Hypo) : Type 0 where
    pub delta : expr_of b.delta ≡ bound_expr own catalogue (expr_of a.delta)
    pub at : b.at ≡ a.at

  abbrev pub StmtIsBound : Stmt → Stmt → Type 0
  StmtIsBound a b = command_of b ≡ bound_command own catalogue (command_of a)

  pub record ArmIsBound (a b : Arm) : Type 0 where
    pub cond : expr_of b.cond ≡ bound_expr own catalogue (expr_of a.cond)
    pub block : block_in b.block.items ≡ bound_block own catalogue (block_in a.block.items)

  abbrev pub BodyIsBound : Body → Body → Type 0
  BodyIsBound a b = body_of b ≡ bound_body own catalogue (body_of a)

  pub exprs_bound : (xs ys : List Core) → length ys ≡ length xs → ((k : ℕ) (d : Core) → k < length xs → CoreIsBound (get_or xs k d) (get_or ys k d)) → exprs_in ys ≡ bound_exprs own catalogue (exprs_in xs)
  exprs_bound [] [] n h = refl
  exprs_bound [] (y ∷ ys) n h = absurd (omega arith)
  exprs_bound (x ∷ xs) [] n h = absurd (omega arith)
  exprs_bound (x ∷ xs) (y ∷ ys) n h =
      ap (λ e. then_expr e (exprs_in ys)) (h 0 x (omega arith)) ∙ ap (λ es. then_expr (bound_expr own catalogue (expr_of x)) es) (exprs_bound xs ys (omega (arith, n)) (λ k d l. h (suc k) d (omega (arith, l))))

  pub links_bound : (xs ys : List Link) → length ys ≡ length xs → ((k : ℕ) (d : Link) → k < length xs → LinkIsBound (get_or xs k d) (get_or ys k d)) → links_in ys ≡ bound_links own catalogue (links_in xs)
  links_bound [] [] n h = refl
  links_bound [] (y ∷ ys) n h = absurd (omega arith)
  links_bound (x ∷ xs) [] n h = absurd (omega arith)
  links_bound (x ∷ xs) (y ∷ ys) n h =
      let one = h 0 x (omega arith) in
      ap (λ (o : Op). link o (expr_of y.arg) y.at (links_in ys)) one.op ∙ ap (λ e. link (bound_op own catalogue x.op) e y.at (links_in ys)) one.arg ∙ ap (λ a. link (bound_op own catalogue x.op) (bound_expr own catalogue (expr_of x.arg)) a (links_in ys)) one.at
      ∙ ap (λ ls. link (bound_op own catalogue x.op) (bound_expr own catalogue (expr_of x.arg)) x.at ls) (links_bound xs ys (omega (arith, n)) (λ k d l. h (suc k) d (omega (arith, l))))

  pub hypos_bound : (xs ys : List Hypo) → length ys ≡ length xs → ((k : ℕ) (d : Hypo) → k < length xs → HypoIsBound (get_or xs k d) (get_or ys k d)) → hypos_in ys ≡ bound_hypos own catalogue (hypos_in xs)
  hypos_bound [] [] n h = refl
  hypos_bound [] (y ∷ ys) n h = absurd (omega arith)
  hypos_bound (x ∷ xs) [] n h = absurd (omega arith)
  hypos_bound (x ∷ xs) (y ∷ ys) n h =
      let one = h 0 x (omega arith) in
      ap (λ e. hypo e y.at (hypos_in ys)) one.delta ∙ ap (λ a. hypo (bound_expr own catalogue (expr_of x.delta)) a (hypos_in ys)) one.at
      ∙ ap (λ hs. hypo (bound_expr own catalogue (expr_of x.delta)) x.at hs) (hypos_bound xs ys (omega (arith, n)) (λ k d l. h (suc k) d (omega (arith, l))))

  pub stmts_bound : (xs ys : List Stmt) → length ys ≡ length xs → ((k : ℕ) (d : Stmt) → k < length xs → StmtIsBound (get_or xs k d) (get_or ys k d)) → block_in ys ≡ bound_block own catalogue (block_in xs)
  stmts_bound [] [] n h = refl
  stmts_bound [] (y ∷ ys) n h = absurd (omega arith)
  stmts_bound (x ∷ xs) [] n h = absurd (omega arith)
  stmts_bound (x ∷ xs) (y ∷ ys) n h =
      ap (λ c. then_stmt c (block_in ys)) (h 0 x (omega arith)) ∙ ap (λ b. then_stmt (bound_command own catalogue (command_of x)) b) (stmts_bound xs ys (omega (arith, n)) (λ k d l. h (suc k) d (omega (arith, l))))

  pub arms_bound : (xs ys : List Arm) → length ys ≡ length xs → ((k : ℕ) (d : Arm) → k < length xs → ArmIsBound (get_or xs k d) (get_or ys k d)) → arms_in ys ≡ bound_arms own catalogue (arms_in xs)
  arms_bound [] [] n h = refl
  arms_bound [] (y ∷ ys) n h = absurd (omega arith)
  arms_bound (x ∷ xs) [] n h = absurd (omega arith)
  arms_bound (x ∷ xs) (y ∷ ys) n h =
      let one = h 0 x (omega arith) in
      ap (λ e. arm e (block_in y.block.items) (arms_in ys)) one.cond ∙ ap (λ b. arm (bound_expr own catalogue (expr_of x.cond)) b (arms_in ys)) one.block
      ∙ ap (λ more. arm (bound_expr own catalogue (expr_of x.cond)) (bound_block own catalogue (block_in x.block.items)) more) (arms_bound xs ys (omega (arith, n)) (λ k d l. h (suc k) d (omega (arith, l))))

  pub bodies_bound : (xs ys : List Body) → length ys ≡ length xs → ((k : ℕ) (d : Body) → k < length xs → BodyIsBound (get_or xs k d) (get_or ys k d)) → map body_of ys ≡ map (bound_body own catalogue) (map body_of xs)
  bodies_bound [] [] n h = refl
  bodies_bound [] (y ∷ ys) n h = absurd (omega arith)
  bodies_bound (x ∷ xs) [] n h = absurd (omega arith)
  bodies_bound (x ∷ xs) (y ∷ ys) n h =
      ap (λ b. b ∷ map body_of ys) (h 0 x (omega arith)) ∙ ap (λ bs. bound_body own catalogue (body_of x) ∷ bs) (bodies_bound xs ys (omega (arith, n)) (λ k d l. h (suc k) d (omega (arith, l))))
