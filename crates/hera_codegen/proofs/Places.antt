-- Where the code of each phrase ends, and what stands behind it.
use Rattle.std.proofs.Common.{◌≡◌, ℕ, zero, suc, ◌+◌, ◌<◌, true, false, List, [], ◌∷◌, ◌++◌, length, Some, None, refl, subst, arith, length-append}
use Rattle.std.specs.Prelude.{slice_get}
use Rattle.std.proofs.lemmas.Option.{slice_get_within}
use Rattle.hera_meaning.specs.Trees.{Expr, constant, local, relation, prim, chain, and_all, or_any, when, select, map_each, call, host, Exprs, no_more, then_expr, Links, no_link, link, Hypos, no_hypo, hypo, Command, set_slot, if_arms, while, foreach, print, apply, commit, rollback, assert, return, return_value, call_proc, Block, no_stmt, then_stmt, Arms, no_arm, arm}
use Rattle.hera_meaning.specs.Addresses.{expr_end, exprs_end, links_end, every_last, some_end, hypos_end, hypos_count, command_end, block_end, arms_end}
use Rattle.hera_code.specs.declared.instrs.Instr.{Instr}
use Rattle.hera_code.specs.declared.instrs.Instr.TheVariants.{Store, Prim, Host, Jump, Unless, Back, Enter, Walk as walk_instr, Next, Keep, Gather, Yield, Drop, Call, Print, Apply, Assert}
use Rattle.hera_code.specs.Scheme.{push_bool, leaves, expr_code, exprs_code, every_code, some_code, links_code, hypos_code, Role, return_code, command_code, block_code, arms_code}

-- the instructions stand in the code at this address
abbrev pub HasAt : List Instr → ℕ → List Instr → Type 0
HasAt code a [] = Unit {0}
HasAt code a (i ∷ is) = (slice_get code a ≡ Some i) × HasAt code (a + 1) is

pub has_front : (code : List Instr) (a : ℕ) (xs ys : List Instr) → HasAt code a (xs ++ ys) → HasAt code a xs
has_front code a [] ys h = tt
has_front code a (i ∷ xs) ys h = (h.0, has_front code (a + 1) xs ys h.1)

has_back : (code : List Instr) (a : ℕ) (xs ys : List Instr) → HasAt code a (xs ++ ys) → HasAt code (a + length xs) ys
has_back code a [] ys h = let e : a ≡ a + 0 = omega arith in subst (λ n. HasAt code n ys) e h
has_back code a (i ∷ xs) ys h =
    let e : a + 1 + length xs ≡ a + length (i ∷ xs) = omega arith in
    subst (λ n. HasAt code n ys) e (has_back code (a + 1) xs ys h.1)

-- what stands behind a stretch that ends at b
pub all_behind : (code : List Instr) (a : ℕ) (xs ys : List Instr) (b : ℕ) → a + length xs ≡ b → HasAt code a (xs ++ ys) → HasAt code b ys
all_behind code a xs ys b e has = subst (λ n. HasAt code n ys) e (has_back code a xs ys has)

pub here_behind : (code : List Instr) (a : ℕ) (xs : List Instr) (i : Instr) (ys : List Instr) (b : ℕ) → a + length xs ≡ b → HasAt code a (xs ++ i ∷ ys) → slice_get code b ≡ Some i
here_behind code a xs i ys b e has = (all_behind code a xs (i ∷ ys) b e has).0

-- an address where an instruction stands is in the code
pub in_here : (code : List Instr) (a : ℕ) (i : Instr) → slice_get code a ≡ Some i → a < length code
in_here code a i here = slice_get_within code a i here

pub leaves_length : (n : ℕ) → length (leaves n) ≡ n
leaves_length zero = refl
leaves_length (suc n) = omega (arith, leaves_length n)

mutual
  pub expr_length : (e : Expr) (a : ℕ) → a + length (expr_code e a) ≡ expr_end e a
  expr_length (constant c) a = refl
  expr_length (local i) a = refl
  expr_length (relation r) a = refl
  expr_length (prim op args place) a = omega (arith, exprs_length args a, length-append (exprs_code args a) (Prim op place ∷ []))
  expr_length (chain first links) a = omega (arith, expr_length first a, links_length links (expr_end first a), length-append (expr_code first a) (links_code links (expr_end first a)))
  expr_length (and_all args) a = every_length args a (every_last args a)
  expr_length (or_any args) a = some_length args a (some_end args a)
  expr_length (when body hypos) a =
      omega (
        arith,
        hypos_length hypos a,
        expr_length body (hypos_end hypos a),
        leaves_length (hypos_count hypos),
        length-append (hypos_code hypos a) (expr_code body (hypos_end hypos a) ++ leaves (hypos_count hypos)),
        length-append (expr_code body (hypos_end hypos a)) (leaves (hypos_count hypos)),
      )
  expr_length (select i of body) a =
      omega (
        arith,
        expr_length of a,
        expr_length body (expr_end of a + 1 + 1),
        length-append (expr_code of a) (walk_instr ∷ Next i (expr_end body (expr_end of a + 1 + 1) + 1 + 1) ∷ (expr_code body (expr_end of a + 1 + 1) ++ Keep ∷ Back (expr_end of a + 1) ∷ Yield ∷ [])),
        length-append (expr_code body (expr_end of a + 1 + 1)) (Keep ∷ Back (expr_end of a + 1) ∷ Yield ∷ []),
      )
  expr_length (map_each i of body) a =
      omega (
        arith,
        expr_length of a,
        expr_length body (expr_end of a + 1 + 1),
        length-append (expr_code of a) (walk_instr ∷ Next i (expr_end body (expr_end of a + 1 + 1) + 1 + 1) ∷ (expr_code body (expr_end of a + 1 + 1) ++ Gather ∷ Back (expr_end of a + 1) ∷ Yield ∷ [])),
        length-append (expr_code body (expr_end of a + 1 + 1)) (Gather ∷ Back (expr_end of a + 1) ∷ Yield ∷ []),
      )
  expr_length (call k args) a = omega (arith, exprs_length args a, length-append (exprs_code args a) (Call k ∷ []))
  expr_length (host h args) a = omega (arith, exprs_length args a, length-append (exprs_code args a) (Host h ∷ []))

  pub exprs_length : (es : Exprs) (a : ℕ) → a + length (exprs_code es a) ≡ exprs_end es a
  exprs_length no_more a = omega arith
  exprs_length (then_expr e es) a = omega (arith, expr_length e a, exprs_length es (expr_end e a), length-append (expr_code e a) (exprs_code es (expr_end e a)))

  pub every_length : (es : Exprs) (a last : ℕ) → a + length (every_code es a last) ≡ every_last es a + 1
  every_length no_more a last = refl
  every_length (then_expr e no_more) a last = omega (arith, expr_length e a, length-append (expr_code e a) (Jump (last + 1) ∷ push_bool false ∷ []))
  every_length (then_expr e (then_expr f fs)) a last =
      omega (arith, expr_length e a, every_length (then_expr f fs) (expr_end e a + 1) last, length-append (expr_code e a) (Unless last ∷ every_code (then_expr f fs) (expr_end e a + 1) last))

  pub some_length : (es : Exprs) (a end : ℕ) → a + length (some_code es a end) ≡ some_end es a
  some_length no_more a end = omega arith
  some_length (then_expr e no_more) a end = expr_length e a
  some_length (then_expr e (then_expr f fs)) a end =
      omega (
        arith,
        expr_length e a,
        some_length (then_expr f fs) (expr_end e a + 1 + 1 + 1) end,
        length-append (expr_code e a) (Unless (expr_end e a + 1 + 1 + 1) ∷ push_bool true ∷ Jump end ∷ some_code (then_expr f fs) (expr_end e a + 1 + 1 + 1) end),
      )

  pub links_length : (ls : Links) (a : ℕ) → a + length (links_code ls a) ≡ links_end ls a
  links_length no_link a = omega arith
  links_length (link op arg place rest) a =
      omega (arith, expr_length arg a, links_length rest (expr_end arg a + 1), length-append (expr_code arg a) (Prim op place ∷ links_code rest (expr_end arg a + 1)))

  pub hypos_length : (hs : Hypos) (a : ℕ) → a + length (hypos_code hs a) ≡ hypos_end hs a
  hypos_length no_hypo a = omega arith
  hypos_length (hypo d place rest) a =
      omega (arith, hypos_length rest a, expr_length d (hypos_end rest a), length-append (hypos_code rest a) (expr_code d (hypos_end rest a) ++ Enter place ∷ []), length-append (expr_code d (hypos_end rest a)) (Enter place ∷ []))

mutual
  pub command_length : (p : Role) (c : Command) (a : ℕ) → a + length (command_code p c a) ≡ command_end c a
  command_length p (set_slot i e) a = omega (arith, expr_length e a, length-append (expr_code e a) (Store i ∷ []))
  command_length p (if_arms arms other) a =
      let end = block_end other (arms_end arms a) in
      omega (arith, arms_length p arms a end, block_length p other (arms_end arms a), length-append (arms_code p arms a end) (block_code p other (arms_end arms a)))
  command_length p (while c block) a =
      let b = expr_end c a + 1 in
      omega (arith, expr_length c a, block_length p block b, length-append (expr_code c a) (Unless (block_end block b + 1) ∷ (block_code p block b ++ Back a ∷ [])), length-append (block_code p block b) (Back a ∷ []))
  command_length p (foreach i of block) a =
      let b = expr_end of a + 1 + 1 in
      omega (arith, expr_length of a, block_length p block b, length-append (expr_code of a) (walk_instr ∷ Next i (block_end block b + 1) ∷ (block_code p block b ++ Back (expr_end of a + 1) ∷ Drop ∷ [])), length-append (block_code p block b) (Back (expr_end of a + 1) ∷ Drop ∷ []))
  command_length p (print e shape) a = omega (arith, expr_length e a, length-append (expr_code e a) (Print shape ∷ []))
  command_length p (apply d at) a = omega (arith, expr_length d a, length-append (expr_code d a) (Apply at ∷ []))
  command_length p (commit None) a = refl
  command_length p (commit (Some label)) a = omega arith
  command_length p rollback a = refl
  command_length p (assert c at) a = omega (arith, expr_length c a, length-append (expr_code c a) (Assert at ∷ []))
  command_length p return a = refl
  command_length p (return_value e) a = omega (arith, expr_length e a, length-append (expr_code e a) (return_code p ∷ []))
  command_length p (call_proc k args) a = omega (arith, exprs_length args a, length-append (exprs_code args a) (Call k ∷ []))

  pub block_length : (p : Role) (b : Block) (a : ℕ) → a + length (block_code p b a) ≡ block_end b a
  block_length p no_stmt a = omega arith
  block_length p (then_stmt c rest) a = omega (arith, command_length p c a, block_length p rest (command_end c a), length-append (command_code p c a) (block_code p rest (command_end c a)))

  pub arms_length : (p : Role) (arms : Arms) (a end : ℕ) → a + length (arms_code p arms a end) ≡ arms_end arms a
  arms_length p no_arm a end = omega arith
  arms_length p (arm c block rest) a end =
      let b = expr_end c a + 1 in
      let r = block_end block b + 1 in
      omega (arith, expr_length c a, block_length p block b, arms_length p rest r end, length-append (expr_code c a) (Unless r ∷ (block_code p block b ++ Jump end ∷ arms_code p rest r end)), length-append (block_code p block b) (Jump end ∷ arms_code p rest r end))
