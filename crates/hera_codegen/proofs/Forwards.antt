-- The code of a program jumps forward alone.
use Rattle.std.proofs.Common.{◌≡◌, ℕ, zero, suc, ◌+◌, ◌≤◌, Bool, true, false, List, [], ◌∷◌, ◌++◌, length, Some, None, refl, subst, arith, length-append}
use Rattle.std.specs.Prelude.{slice_get}
use Rattle.hera_meaning.specs.Trees.{Expr, constant, local, relation, prim, chain, and_all, or_any, when, select, map_each, call, host, Exprs, no_more, then_expr, Links, no_link, link, Hypos, no_hypo, hypo, Command, set_slot, if_arms, while, foreach, print, apply, commit, rollback, assert, return, return_value, call_proc, Block, no_stmt, then_stmt, Arms, no_arm, arm, Body_tree, Program_tree}
use Rattle.hera_meaning.specs.Addresses.{expr_end, exprs_end, every_last, some_end, hypos_end, hypos_count, command_end, block_end, arms_end, body_end}
use Rattle.hera_code.specs.declared.instrs.Instr.{Instr}
use Rattle.hera_code.specs.declared.instrs.Instr.TheVariants.{Store, Prim, Host, Jump, Unless, Back, Enter, Walk as walk_instr, Next, Keep, Gather, Yield, Drop, Call, Ret, Print, Apply, Assert, Halt}
use Rattle.hera_code.specs.Scheme.{push_bool, leaves, expr_code, exprs_code, every_code, some_code, links_code, hypos_code, Role, in_main, in_func, in_proc, return_code, command_code, block_code, arms_code, last_code, role_of, body_code, bodies_code, code_from, code_of}
use Rattle.hera_code.specs.Forward.{GoesForward, Forward}
use Rattle.hera_codegen.proofs.Places.{expr_length, exprs_length, every_length, some_length, hypos_length, command_length, block_length, arms_length}

-- each instruction, from this address on, goes forward
abbrev pub Forwards : ℕ → List Instr → Type 0
Forwards a [] = Unit {0}
Forwards a (i ∷ is) = GoesForward a i × Forwards (a + 1) is

-- one stretch behind another
forwards_more : (a b : ℕ) (xs ys : List Instr) → a + length xs ≡ b → Forwards a xs → Forwards b ys → Forwards a (xs ++ ys)
forwards_more a b [] ys e h g = let q : b ≡ a = omega (arith, e) in subst (λ n. Forwards n ys) q g
forwards_more a b (i ∷ xs) ys e h g = (h.0, forwards_more (a + 1) b xs ys (omega (arith, e)) h.1 g)

forwards_at : (a : ℕ) (is : List Instr) (k : ℕ) (i : Instr) → Forwards a is → slice_get is k ≡ Some i → GoesForward (a + k) i
forwards_at a [] k i h e = cc
forwards_at a (j ∷ is) zero i h e =
    let some_is : j ≡ i = cc in
    let q : a ≡ a + 0 = omega arith in
    subst (λ n. GoesForward n i) q (subst (λ i. GoesForward a i) some_is h.0)
forwards_at a (j ∷ is) (suc k) i h e = let q : a + 1 + k ≡ a + suc k = omega arith in subst (λ n. GoesForward n i) q (forwards_at (a + 1) is k i h.1 e)

leaves_forward : (a n : ℕ) → Forwards a (leaves n)
leaves_forward a zero = tt
leaves_forward a (suc n) = (tt, leaves_forward (a + 1) n)

every_some : (es : Exprs) (a f : ℕ) → 1 ≤ length (every_code es a f)
every_some no_more a f = omega arith
every_some (then_expr e no_more) a f = omega (arith, length-append (expr_code e a) (Jump (f + 1) ∷ push_bool false ∷ []))
every_some (then_expr e (then_expr d ds)) a f = omega (arith, length-append (expr_code e a) (Unless f ∷ every_code (then_expr d ds) (expr_end e a + 1) f))

mutual
  expr_forward : (e : Expr) (a : ℕ) → Forwards a (expr_code e a)
  expr_forward (constant c) a = (tt, tt)
  expr_forward (local i) a = (tt, tt)
  expr_forward (relation r) a = (tt, tt)
  expr_forward (prim op args place) a = forwards_more a (exprs_end args a) (exprs_code args a) (Prim op place ∷ []) (exprs_length args a) (exprs_forward args a) (tt, tt)
  expr_forward (chain first links) a = forwards_more a (expr_end first a) (expr_code first a) (links_code links (expr_end first a)) (expr_length first a) (expr_forward first a) (links_forward links (expr_end first a))
  expr_forward (and_all args) a = every_forward args a (every_last args a) refl
  expr_forward (or_any args) a = some_forward args a (some_end args a) refl
  expr_forward (when body hypos) a =
      let a' = hypos_end hypos a in
      forwards_more a a' (hypos_code hypos a) (expr_code body a' ++ leaves (hypos_count hypos)) (hypos_length hypos a) (hypos_forward hypos a)
      (forwards_more a' (expr_end body a') (expr_code body a') (leaves (hypos_count hypos)) (expr_length body a') (expr_forward body a') (leaves_forward (expr_end body a') (hypos_count hypos)))
  expr_forward (select i of body) a =
      let l = expr_end of a + 1 in
      let x = expr_end body (l + 1) + 1 + 1 in
      forwards_more a (expr_end of a) (expr_code of a) (walk_instr ∷ Next i x ∷ (expr_code body (l + 1) ++ Keep ∷ Back l ∷ Yield ∷ [])) (expr_length of a) (expr_forward of a)
      (tt, (omega (arith, expr_length body (l + 1)), forwards_more (l + 1) (expr_end body (l + 1)) (expr_code body (l + 1)) (Keep ∷ Back l ∷ Yield ∷ []) (expr_length body (l + 1)) (expr_forward body (l + 1)) (tt, (tt, (tt, tt)))))
  expr_forward (map_each i of body) a =
      let l = expr_end of a + 1 in
      let x = expr_end body (l + 1) + 1 + 1 in
      forwards_more a (expr_end of a) (expr_code of a) (walk_instr ∷ Next i x ∷ (expr_code body (l + 1) ++ Gather ∷ Back l ∷ Yield ∷ [])) (expr_length of a) (expr_forward of a)
      (tt, (omega (arith, expr_length body (l + 1)), forwards_more (l + 1) (expr_end body (l + 1)) (expr_code body (l + 1)) (Gather ∷ Back l ∷ Yield ∷ []) (expr_length body (l + 1)) (expr_forward body (l + 1)) (tt, (tt, (tt, tt)))))
  expr_forward (call k args) a = forwards_more a (exprs_end args a) (exprs_code args a) (Call k ∷ []) (exprs_length args a) (exprs_forward args a) (tt, tt)
  expr_forward (host h args) a = forwards_more a (exprs_end args a) (exprs_code args a) (Host h ∷ []) (exprs_length args a) (exprs_forward args a) (tt, tt)

  exprs_forward : (es : Exprs) (a : ℕ) → Forwards a (exprs_code es a)
  exprs_forward no_more a = tt
  exprs_forward (then_expr e es) a = forwards_more a (expr_end e a) (expr_code e a) (exprs_code es (expr_end e a)) (expr_length e a) (expr_forward e a) (exprs_forward es (expr_end e a))

  every_forward : (es : Exprs) (a f : ℕ) → every_last es a ≡ f → Forwards a (every_code es a f)
  every_forward no_more a f q = (tt, tt)
  every_forward (then_expr e no_more) a f q =
      forwards_more a (expr_end e a) (expr_code e a) (Jump (f + 1) ∷ push_bool false ∷ []) (expr_length e a) (expr_forward e a) (omega (arith, q), (tt, tt))
  every_forward (then_expr e (then_expr d ds)) a f q =
      forwards_more a (expr_end e a) (expr_code e a) (Unless f ∷ every_code (then_expr d ds) (expr_end e a + 1) f) (expr_length e a) (expr_forward e a)
      (omega (arith, q, every_length (then_expr d ds) (expr_end e a + 1) f, every_some (then_expr d ds) (expr_end e a + 1) f), every_forward (then_expr d ds) (expr_end e a + 1) f q)

  some_forward : (es : Exprs) (a x : ℕ) → some_end es a ≡ x → Forwards a (some_code es a x)
  some_forward no_more a x q = tt
  some_forward (then_expr e no_more) a x q = expr_forward e a
  some_forward (then_expr e (then_expr d ds)) a x q =
      let n = expr_end e a + 1 + 1 + 1 in
      forwards_more a (expr_end e a) (expr_code e a) (Unless n ∷ push_bool true ∷ Jump x ∷ some_code (then_expr d ds) n x) (expr_length e a) (expr_forward e a)
      (omega arith, (tt, (omega (arith, q, some_length (then_expr d ds) n x), some_forward (then_expr d ds) n x q)))

  links_forward : (links : Links) (a : ℕ) → Forwards a (links_code links a)
  links_forward no_link a = tt
  links_forward (link op arg place rest) a =
      forwards_more a (expr_end arg a) (expr_code arg a) (Prim op place ∷ links_code rest (expr_end arg a + 1)) (expr_length arg a) (expr_forward arg a) (tt, links_forward rest (expr_end arg a + 1))

  hypos_forward : (hypos : Hypos) (a : ℕ) → Forwards a (hypos_code hypos a)
  hypos_forward no_hypo a = tt
  hypos_forward (hypo d place rest) a =
      let a' = hypos_end rest a in
      forwards_more a a' (hypos_code rest a) (expr_code d a' ++ Enter place ∷ []) (hypos_length rest a) (hypos_forward rest a)
      (forwards_more a' (expr_end d a') (expr_code d a') (Enter place ∷ []) (expr_length d a') (expr_forward d a') (tt, tt))

ret_forward : (p : Role) (a : ℕ) → GoesForward a (return_code p)
ret_forward in_main a = tt
ret_forward in_func a = tt
ret_forward in_proc a = tt

module _ (p : Role) where
  mutual
    command_forward : (c : Command) (a : ℕ) → Forwards a (command_code p c a)
    command_forward (set_slot i e) a = forwards_more a (expr_end e a) (expr_code e a) (Store i ∷ []) (expr_length e a) (expr_forward e a) (tt, tt)
    command_forward (if_arms arms other) a =
        let a' = arms_end arms a in
        let x = block_end other a' in
        forwards_more a a' (arms_code p arms a x) (block_code p other a') (arms_length p arms a x) (arms_forward arms a x (omega (arith, block_length p other a'))) (block_forward other a')
    command_forward (while c block) a =
        let b = expr_end c a + 1 in
        let x = block_end block b + 1 in
        forwards_more a (expr_end c a) (expr_code c a) (Unless x ∷ (block_code p block b ++ Back a ∷ [])) (expr_length c a) (expr_forward c a)
        (omega (arith, block_length p block b), forwards_more b (block_end block b) (block_code p block b) (Back a ∷ []) (block_length p block b) (block_forward block b) (tt, tt))
    command_forward (foreach i of block) a =
        let l = expr_end of a + 1 in
        let x = block_end block (l + 1) + 1 in
        forwards_more a (expr_end of a) (expr_code of a) (walk_instr ∷ Next i x ∷ (block_code p block (l + 1) ++ Back l ∷ Drop ∷ [])) (expr_length of a) (expr_forward of a)
        (tt, (omega (arith, block_length p block (l + 1)), forwards_more (l + 1) (block_end block (l + 1)) (block_code p block (l + 1)) (Back l ∷ Drop ∷ []) (block_length p block (l + 1)) (block_forward block (l + 1)) (tt, (tt, tt))))
    command_forward (print e shape) a = forwards_more a (expr_end e a) (expr_code e a) (Print shape ∷ []) (expr_length e a) (expr_forward e a) (tt, tt)
    command_forward (apply d place) a = forwards_more a (expr_end d a) (expr_code d a) (Apply place ∷ []) (expr_length d a) (expr_forward d a) (tt, tt)
    command_forward (commit None) a = (tt, tt)
    command_forward (commit (Some label)) a = (tt, (tt, (tt, tt)))
    command_forward rollback a = (tt, tt)
    command_forward (assert c place) a = forwards_more a (expr_end c a) (expr_code c a) (Assert place ∷ []) (expr_length c a) (expr_forward c a) (tt, tt)
    command_forward return a = (ret_forward p a, tt)
    command_forward (return_value e) a = forwards_more a (expr_end e a) (expr_code e a) (return_code p ∷ []) (expr_length e a) (expr_forward e a) (ret_forward p (expr_end e a), tt)
    command_forward (call_proc k args) a = forwards_more a (exprs_end args a) (exprs_code args a) (Call k ∷ []) (exprs_length args a) (exprs_forward args a) (tt, tt)

    block_forward : (b : Block) (a : ℕ) → Forwards a (block_code p b a)
    block_forward no_stmt a = tt
    block_forward (then_stmt c rest) a = forwards_more a (command_end c a) (command_code p c a) (block_code p rest (command_end c a)) (command_length p c a) (command_forward c a) (block_forward rest (command_end c a))

    arms_forward : (arms : Arms) (a x : ℕ) → arms_end arms a ≤ x → Forwards a (arms_code p arms a x)
    arms_forward no_arm a x le = tt
    arms_forward (arm c block rest) a x le =
        let b = expr_end c a + 1 in
        let n = block_end block b + 1 in
        forwards_more a (expr_end c a) (expr_code c a) (Unless n ∷ (block_code p block b ++ Jump x ∷ arms_code p rest n x)) (expr_length c a) (expr_forward c a) (
          omega (arith, block_length p block b),
          forwards_more b (block_end block b) (block_code p block b) (Jump x ∷ arms_code p rest n x) (block_length p block b) (block_forward block b)
              (omega (arith, le, arms_length p rest n x), arms_forward rest n x le),
        )

last_forward : (p : Role) (a : ℕ) → Forwards a (last_code p)
last_forward in_main a = (tt, tt)
last_forward in_func a = tt
last_forward in_proc a = (tt, tt)

body_forward : (p : Role) (b : Block) (a : ℕ) → Forwards a (body_code p b a)
body_forward p b a = forwards_more a (block_end b a) (block_code p b a) (last_code p) (block_length p b a) (block_forward p b a) (last_forward p (block_end b a))

body_long : (func : Bool) (b : Block) (a : ℕ) → a + length (body_code (role_of func) b a) ≡ body_end func b a
body_long true b a = omega (arith, block_length in_func b a, length-append (block_code in_func b a) [])
body_long false b a = omega (arith, block_length in_proc b a, length-append (block_code in_proc b a) (Ret ∷ []))

bodies_forward : (bs : List Body_tree) (a : ℕ) → Forwards a (bodies_code bs a)
bodies_forward [] a = tt
bodies_forward (b ∷ bs) a =
    forwards_more a (body_end b.func b.block a) (body_code (role_of b.func) b.block a) (bodies_code bs (body_end b.func b.block a)) (body_long b.func b.block a) (body_forward (role_of b.func) b.block a) (bodies_forward bs (body_end b.func b.block a))

code_forwards : (bs : List Body_tree) → Forwards 0 (code_from bs).instrs
code_forwards [] = tt
code_forwards (b ∷ bs) =
    let a = block_end b.block 0 + 1 in
    forwards_more 0 a (body_code in_main b.block 0) (bodies_code bs a) (omega (arith, block_length in_main b.block 0, length-append (block_code in_main b.block 0) (Halt ∷ []))) (body_forward in_main b.block 0) (bodies_forward bs a)

pub code_forward : (p : Program_tree) → Forward (code_of p)
code_forward p a i e =
    let q : 0 + a ≡ a = omega arith in
    subst (λ n. GoesForward n i) q (forwards_at 0 (code_of p).instrs a i (code_forwards p.bodies) e)
