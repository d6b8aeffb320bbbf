-- Binding changes numbers of relations alone: walks, slots that are set, returns and addresses stay.
use Rattle.std.proofs.Common.{◌≡◌, ℕ, suc, ◌+◌, List, [], ◌∷◌, Some, None, refl, ap, ◌∙◌, Bool, true, false}
use Rattle.std.specs.Prelude.{map}
use Rattle.hera_meaning.specs.declared.schemas.RelDecl.{RelDecl}
use Rattle.hera_meaning.specs.Trees.{Expr, constant, local, relation, prim, chain, and_all, or_any, when, select, map_each, call, host, Exprs, no_more, then_expr, Links, no_link, link, Hypos, no_hypo, hypo, Command, set_slot, if_arms, while, foreach, print, apply, commit, rollback, assert, return, return_value, call_proc, Block, no_stmt, then_stmt, Arms, no_arm, arm, Body_tree}
use Rattle.hera_meaning.specs.Sound.{walks_in, walks_in_all, walks_in_links, walks_in_hypos, walks_of, walks_of_block, walks_of_arms, sets_of, sets_of_block, sets_of_arms, readable_after, returns, command_returns, arms_return}
use Rattle.hera_meaning.specs.Addresses.{expr_end, exprs_end, every_last, some_end, links_end, hypos_end, hypos_count, command_end, block_end, arms_end, body_end, bodies_end}
use Rattle.hera_rules.specs.Bound.{bound_expr, bound_exprs, bound_links, bound_hypos, bound_command, bound_block, bound_arms, bound_body}

module _ (own catalogue : List RelDecl) where
  mutual
    pub walks_same : (e : Expr) → walks_in (bound_expr own catalogue e) ≡ walks_in e
    walks_same (constant c) = refl
    walks_same (local i) = refl
    walks_same (relation r) = refl
    walks_same (prim op args at) = walks_same_all args
    walks_same (chain first links) = rw (walks_same first, walks_same_links links) refl
    walks_same (and_all args) = walks_same_all args
    walks_same (or_any args) = walks_same_all args
    walks_same (when body hypos) = rw (walks_same body, walks_same_hypos hypos) refl
    walks_same (select i of body) = rw (walks_same of, walks_same body) refl
    walks_same (map_each i of body) = rw (walks_same of, walks_same body) refl
    walks_same (call k args) = walks_same_all args
    walks_same (host h args) = walks_same_all args

    pub walks_same_all : (es : Exprs) → walks_in_all (bound_exprs own catalogue es) ≡ walks_in_all es
    walks_same_all no_more = refl
    walks_same_all (then_expr e es) = rw (walks_same e, walks_same_all es) refl

    walks_same_links : (ls : Links) → walks_in_links (bound_links own catalogue ls) ≡ walks_in_links ls
    walks_same_links no_link = refl
    walks_same_links (link op arg at rest) = rw (walks_same arg, walks_same_links rest) refl

    walks_same_hypos : (hs : Hypos) → walks_in_hypos (bound_hypos own catalogue hs) ≡ walks_in_hypos hs
    walks_same_hypos no_hypo = refl
    walks_same_hypos (hypo d at rest) = rw (walks_same d, walks_same_hypos rest) refl

  mutual
    pub walks_same_command : (c : Command) → walks_of (bound_command own catalogue c) ≡ walks_of c
    walks_same_command (set_slot i e) = walks_same e
    walks_same_command (if_arms arms other) = rw (walks_same_arms arms, walks_same_block other) refl
    walks_same_command (while c block) = rw (walks_same c, walks_same_block block) refl
    walks_same_command (foreach i of block) = rw (walks_same of, walks_same_block block) refl
    walks_same_command (print e shape) = walks_same e
    walks_same_command (apply d at) = walks_same d
    walks_same_command (commit label) = refl
    walks_same_command rollback = refl
    walks_same_command (assert c at) = walks_same c
    walks_same_command return = refl
    walks_same_command (return_value e) = walks_same e
    walks_same_command (call_proc k args) = walks_same_all args

    pub walks_same_block : (b : Block) → walks_of_block (bound_block own catalogue b) ≡ walks_of_block b
    walks_same_block no_stmt = refl
    walks_same_block (then_stmt c rest) = rw (walks_same_command c, walks_same_block rest) refl

    walks_same_arms : (ar : Arms) → walks_of_arms (bound_arms own catalogue ar) ≡ walks_of_arms ar
    walks_same_arms no_arm = refl
    walks_same_arms (arm c block rest) = rw (walks_same c, walks_same_block block, walks_same_arms rest) refl

  mutual
    pub sets_same : (c : Command) → sets_of (bound_command own catalogue c) ≡ sets_of c
    sets_same (set_slot i e) = refl
    sets_same (if_arms arms other) = rw (sets_same_arms arms, sets_same_block other) refl
    sets_same (while c block) = sets_same_block block
    sets_same (foreach i of block) = sets_same_block block
    sets_same (print e shape) = refl
    sets_same (apply d at) = refl
    sets_same (commit label) = refl
    sets_same rollback = refl
    sets_same (assert c at) = refl
    sets_same return = refl
    sets_same (return_value e) = refl
    sets_same (call_proc k args) = refl

    pub sets_same_block : (b : Block) → sets_of_block (bound_block own catalogue b) ≡ sets_of_block b
    sets_same_block no_stmt = refl
    sets_same_block (then_stmt c rest) = rw (sets_same c, sets_same_block rest) refl

    pub sets_same_arms : (ar : Arms) → sets_of_arms (bound_arms own catalogue ar) ≡ sets_of_arms ar
    sets_same_arms no_arm = refl
    sets_same_arms (arm c block rest) = rw (sets_same_block block, sets_same_arms rest) refl

  pub readable_same : (seen rs : List ℕ) (c : Command) → readable_after seen rs (bound_command own catalogue c) ≡ readable_after seen rs c
  readable_same seen rs (set_slot i e) = refl
  readable_same seen rs (if_arms arms other) = refl
  readable_same seen rs (while c block) = refl
  readable_same seen rs (foreach i of block) = refl
  readable_same seen rs (print e shape) = refl
  readable_same seen rs (apply d at) = refl
  readable_same seen rs (commit label) = refl
  readable_same seen rs rollback = refl
  readable_same seen rs (assert c at) = refl
  readable_same seen rs return = refl
  readable_same seen rs (return_value e) = refl
  readable_same seen rs (call_proc k args) = refl

  mutual
    pub returns_same : (b : Block) → returns (bound_block own catalogue b) ≡ returns b
    returns_same no_stmt = refl
    returns_same (then_stmt c no_stmt) = command_returns_same c
    returns_same (then_stmt c (then_stmt d rest)) = returns_same (then_stmt d rest)

    command_returns_same : (c : Command) → command_returns (bound_command own catalogue c) ≡ command_returns c
    command_returns_same (set_slot i e) = refl
    command_returns_same (if_arms arms other) = rw (arms_return_same arms, returns_same other) refl
    command_returns_same (while c block) = refl
    command_returns_same (foreach i of block) = refl
    command_returns_same (print e shape) = refl
    command_returns_same (apply d at) = refl
    command_returns_same (commit label) = refl
    command_returns_same rollback = refl
    command_returns_same (assert c at) = refl
    command_returns_same return = refl
    command_returns_same (return_value e) = refl
    command_returns_same (call_proc k args) = refl

    arms_return_same : (ar : Arms) → arms_return (bound_arms own catalogue ar) ≡ arms_return ar
    arms_return_same no_arm = refl
    arms_return_same (arm c block rest) = rw (returns_same block, arms_return_same rest) refl

  mutual
    pub end_same : (e : Expr) (a : ℕ) → expr_end (bound_expr own catalogue e) a ≡ expr_end e a
    end_same (constant c) a = refl
    end_same (local i) a = refl
    end_same (relation r) a = refl
    end_same (prim op args at) a = ap (λ k. k + 1) (ends_same args a)
    end_same (chain first links) a = links_same links (expr_end (bound_expr own catalogue first) a) ∙ ap (λ k. links_end links k) (end_same first a)
    end_same (and_all args) a = ap (λ k. k + 1) (every_same args a)
    end_same (or_any args) a = some_same args a
    end_same (when body hypos) a =
        ap (λ k. k + hypos_count (bound_hypos own catalogue hypos)) (end_same body (hypos_end (bound_hypos own catalogue hypos) a) ∙ ap (λ k. expr_end body k) (hypos_same hypos a))
        ∙ ap (λ k. expr_end body (hypos_end hypos a) + k) (count_same hypos)
    end_same (select i of body) a = ap (λ k. k + 1 + 1 + 1) (end_same body (expr_end (bound_expr own catalogue of) a + 1 + 1) ∙ ap (λ k. expr_end body (k + 1 + 1)) (end_same of a))
    end_same (map_each i of body) a = ap (λ k. k + 1 + 1 + 1) (end_same body (expr_end (bound_expr own catalogue of) a + 1 + 1) ∙ ap (λ k. expr_end body (k + 1 + 1)) (end_same of a))
    end_same (call j args) a = ap (λ k. k + 1) (ends_same args a)
    end_same (host h args) a = ap (λ k. k + 1) (ends_same args a)

    pub ends_same : (es : Exprs) (a : ℕ) → exprs_end (bound_exprs own catalogue es) a ≡ exprs_end es a
    ends_same no_more a = refl
    ends_same (then_expr e es) a = ends_same es (expr_end (bound_expr own catalogue e) a) ∙ ap (λ k. exprs_end es k) (end_same e a)

    every_same : (es : Exprs) (a : ℕ) → every_last (bound_exprs own catalogue es) a ≡ every_last es a
    every_same no_more a = refl
    every_same (then_expr e no_more) a = ap (λ k. k + 1) (end_same e a)
    every_same (then_expr e (then_expr f fs)) a = every_same (then_expr f fs) (expr_end (bound_expr own catalogue e) a + 1) ∙ ap (λ k. every_last (then_expr f fs) (k + 1)) (end_same e a)

    some_same : (es : Exprs) (a : ℕ) → some_end (bound_exprs own catalogue es) a ≡ some_end es a
    some_same no_more a = refl
    some_same (then_expr e no_more) a = end_same e a
    some_same (then_expr e (then_expr f fs)) a = some_same (then_expr f fs) (expr_end (bound_expr own catalogue e) a + 1 + 1 + 1) ∙ ap (λ k. some_end (then_expr f fs) (k + 1 + 1 + 1)) (end_same e a)

    links_same : (ls : Links) (a : ℕ) → links_end (bound_links own catalogue ls) a ≡ links_end ls a
    links_same no_link a = refl
    links_same (link op arg at rest) a = links_same rest (expr_end (bound_expr own catalogue arg) a + 1) ∙ ap (λ k. links_end rest (k + 1)) (end_same arg a)

    hypos_same : (hs : Hypos) (a : ℕ) → hypos_end (bound_hypos own catalogue hs) a ≡ hypos_end hs a
    hypos_same no_hypo a = refl
    hypos_same (hypo d at rest) a = ap (λ k. k + 1) (end_same d (hypos_end (bound_hypos own catalogue rest) a) ∙ ap (λ k. expr_end d k) (hypos_same rest a))

    count_same : (hs : Hypos) → hypos_count (bound_hypos own catalogue hs) ≡ hypos_count hs
    count_same no_hypo = refl
    count_same (hypo d at rest) = ap (λ k. suc k) (count_same rest)

  mutual
    pub command_end_same : (c : Command) (a : ℕ) → command_end (bound_command own catalogue c) a ≡ command_end c a
    command_end_same (set_slot i e) a = ap (λ k. k + 1) (end_same e a)
    command_end_same (if_arms arms other) a = block_end_same other (arms_end (bound_arms own catalogue arms) a) ∙ ap (λ k. block_end other k) (arms_end_same arms a)
    command_end_same (while c block) a = ap (λ k. k + 1) (block_end_same block (expr_end (bound_expr own catalogue c) a + 1) ∙ ap (λ k. block_end block (k + 1)) (end_same c a))
    command_end_same (foreach i of block) a = ap (λ k. k + 1 + 1) (block_end_same block (expr_end (bound_expr own catalogue of) a + 1 + 1) ∙ ap (λ k. block_end block (k + 1 + 1)) (end_same of a))
    command_end_same (print e shape) a = ap (λ k. k + 1) (end_same e a)
    command_end_same (apply d at) a = ap (λ k. k + 1) (end_same d a)
    command_end_same (commit None) a = refl
    command_end_same (commit (Some label)) a = refl
    command_end_same rollback a = refl
    command_end_same (assert c at) a = ap (λ k. k + 1) (end_same c a)
    command_end_same return a = refl
    command_end_same (return_value e) a = ap (λ k. k + 1) (end_same e a)
    command_end_same (call_proc j args) a = ap (λ k. k + 1) (ends_same args a)

    pub block_end_same : (b : Block) (a : ℕ) → block_end (bound_block own catalogue b) a ≡ block_end b a
    block_end_same no_stmt a = refl
    block_end_same (then_stmt c rest) a = block_end_same rest (command_end (bound_command own catalogue c) a) ∙ ap (λ k. block_end rest k) (command_end_same c a)

    arms_end_same : (ar : Arms) (a : ℕ) → arms_end (bound_arms own catalogue ar) a ≡ arms_end ar a
    arms_end_same no_arm a = refl
    arms_end_same (arm c block rest) a =
        arms_end_same rest (block_end (bound_block own catalogue block) (expr_end (bound_expr own catalogue c) a + 1) + 1)
        ∙ ap (λ k. arms_end rest (k + 1)) (block_end_same block (expr_end (bound_expr own catalogue c) a + 1) ∙ ap (λ k. block_end block (k + 1)) (end_same c a))

  body_end_same : (func : Bool) (b : Block) (a : ℕ) → body_end func (bound_block own catalogue b) a ≡ body_end func b a
  body_end_same true b a = block_end_same b a
  body_end_same false b a = ap (λ k. k + 1) (block_end_same b a)

  pub bodies_end_same : (bodies : List Body_tree) (a : ℕ) → bodies_end (map (bound_body own catalogue) bodies) a ≡ bodies_end bodies a
  bodies_end_same [] a = refl
  bodies_end_same (b ∷ bodies) a = bodies_end_same bodies (body_end b.func (bound_block own catalogue b.block) a) ∙ ap (λ k. bodies_end bodies k) (body_end_same b.func b.block a)
