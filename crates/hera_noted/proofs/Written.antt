-- Which slots the code of a phrase writes: those of its walks, and those that it sets.
use Rattle.std.proofs.Common.{◌≡◌, ℕ, zero, suc, ◌+◌, ◌<◌, ◌≤◌, ◌⊎◌, ◌||◌, true, false, List, [], ◌∷◌, ◌++◌, length, Some, None, refl, sym, ap, ◌∙◌, subst, arith, inl, inr}
use Rattle.std.specs.Prelude.{slice_get, nat_eq, not}
use Rattle.std.proofs.lemmas.Bool.{false≢true, or_left, or_right, or_parts, or_cases, eqb-true, eq-eqb, cases_lt}
use Rattle.hera_meaning.specs.Trees.{Expr, constant, local, relation, prim, chain, and_all, or_any, when as when_expr, select, map_each, call, host, Exprs, no_more, then_expr, Links, no_link, link, Hypos, no_hypo, hypo, Command, set_slot, if_arms, while, foreach, print, apply, commit, rollback, assert, return, return_value, call_proc, Block, no_stmt, then_stmt, Arms, no_arm, arm}
use Rattle.hera_meaning.specs.Addresses.{expr_end, every_last, some_end, hypos_end, hypos_count, command_end, block_end, arms_end}
use Rattle.hera_meaning.specs.Sound.{has_slot, AreApart, walks_in, walks_in_all, walks_in_links, walks_in_hypos, walks_of, walks_of_block, walks_of_arms, sets_of, sets_of_block, sets_of_arms, Scope, IsSound, BlockIsSound, ArmsAreSound}
use Rattle.hera_code.specs.declared.instrs.Instr.{Instr}
use Rattle.hera_code.specs.declared.instrs.Instr.TheVariants.{Store, Prim, Host, Jump, Unless, Back, Enter, Keep, Gather, Yield, Drop, Call, Print, Apply, Assert}
use Rattle.hera_code.specs.Scheme.{push_bool, leaves, expr_code, exprs_code, every_code, some_code, links_code, hypos_code, Role, in_main, in_func, in_proc, return_code, command_code, block_code, arms_code}
use Rattle.hera_codegen.proofs.Places.{HasAt}
use Rattle.hera_codegen.proofs.Slots.{slot-append}
use Rattle.hera_typed.proofs.Asking.{some_is}
use Rattle.hera_noted.specs.Spans.{is_writer}

-- ---- lists of slots

pub has_left : (xs ys : List ℕ) (i : ℕ) → has_slot xs i ≡ true → has_slot (xs ++ ys) i ≡ true
has_left xs ys i e = slot-append xs ys i ∙ or_left (has_slot xs i) (has_slot ys i) e

pub has_right : (xs ys : List ℕ) (i : ℕ) → has_slot ys i ≡ true → has_slot (xs ++ ys) i ≡ true
has_right xs ys i e = slot-append xs ys i ∙ or_right (has_slot xs i) (has_slot ys i) e

pub has_either : (xs ys : List ℕ) (i : ℕ) → has_slot (xs ++ ys) i ≡ true → (has_slot xs i ≡ true) ⊎ (has_slot ys i ≡ true)
has_either xs ys i e = or_cases (has_slot xs i) (has_slot ys i) (sym (slot-append xs ys i) ∙ e)

pub has_neither : (xs ys : List ℕ) (i : ℕ) → has_slot (xs ++ ys) i ≡ false → (has_slot xs i ≡ false) × (has_slot ys i ≡ false)
has_neither xs ys i e = or_parts (has_slot xs i) (has_slot ys i) (sym (slot-append xs ys i) ∙ e)

pub has_own : (i : ℕ) (ws : List ℕ) → has_slot (i ∷ ws) i ≡ true
has_own i ws = or_left (nat_eq i i) (has_slot ws i) (eq-eqb i i refl)

pub has_more : (i : ℕ) (ws : List ℕ) (j : ℕ) → has_slot ws j ≡ true → has_slot (i ∷ ws) j ≡ true
has_more i ws j e = or_right (nat_eq j i) (has_slot ws j) e

-- slots of two lists that are apart
pub apart_both : (xs ys : List ℕ) (i : ℕ) → AreApart (xs ++ ys) → has_slot xs i ≡ true → has_slot ys i ≡ true → ⊥
apart_both [] ys i h e f = false≢true e
apart_both (x ∷ xs) ys i h e f = by (or_cases (nat_eq i x) (has_slot xs i) e) (λ e. apart_both xs ys i h.1 e f)
  where
    by : (nat_eq i x ≡ true) ⊎ (has_slot xs i ≡ true) → (has_slot xs i ≡ true → ⊥) → ⊥
    by (inl q) ih =
        let same : i ≡ x = eqb-true i x q in
        false≢true (sym (has_neither xs ys x h.0).1 ∙ ap (has_slot ys) (sym same) ∙ f)
    by (inr q) ih = ih q

-- ---- what instructions write

abbrev pub WritesIn : (ℕ → Type 0) → List Instr → Type 0
WritesIn Q [] = Unit {0}
WritesIn Q (i ∷ is) = ((j : ℕ) → is_writer i j ≡ true → Q j) × WritesIn Q is

pub writes_more : (Q : ℕ → Type 0) (is js : List Instr) → WritesIn Q is → WritesIn Q js → WritesIn Q (is ++ js)
writes_more Q [] js h g = g
writes_more Q (i ∷ is) js h g = (h.0, writes_more Q is js h.1 g)

-- what an instruction writes that stands in a stretch of code
pub writes_here : (Q : ℕ → Type 0) (code is : List Instr) (a c : ℕ) (i : Instr) (j : ℕ) → HasAt code a is → WritesIn Q is → slice_get code c ≡ Some i → a ≤ c → c < a + length is → is_writer i j ≡ true → Q j
writes_here Q code [] a c i j has h e ge lt w = absurd (omega (arith, ge, lt))
writes_here Q code (x ∷ is) a c i j has h e ge lt w = by (cases_lt a c) (λ more. writes_here Q code is (a + 1) c i j has.1 h.1 e (omega (arith, more)) (omega (arith, lt)) w)
  where
    by : (a < c) ⊎ (c ≤ a) → (a < c → Q j) → Q j
    by (inl more) rest = rest more
    by (inr less) rest =
        let same : a ≡ c = omega (arith, less, ge) in
        let i_is : i ≡ x = some_is i x (sym e ∙ ap (slice_get code) (sym same) ∙ has.0) in
        h.0 j (ap (λ i. is_writer i j) (sym i_is) ∙ w)

leaves_write : (Q : ℕ → Type 0) (n : ℕ) → WritesIn Q (leaves n)
leaves_write Q zero = tt
leaves_write Q (suc n) = (λ j w. absurd (false≢true w), leaves_write Q n)

-- ---- expressions

module _ (Q : ℕ → Type 0) where
  -- these slots are among those
  abbrev pub Among : List ℕ → Type 0
  Among ws = (j : ℕ) → has_slot ws j ≡ true → Q j

  pub among_left : (xs ys : List ℕ) → Among (xs ++ ys) → Among xs
  among_left xs ys h j e = h j (has_left xs ys j e)

  pub among_right : (xs ys : List ℕ) → Among (xs ++ ys) → Among ys
  among_right xs ys h j e = h j (has_right xs ys j e)

  pub among_rest : (i : ℕ) (ws : List ℕ) → Among (i ∷ ws) → Among ws
  among_rest i ws h j e = h j (has_more i ws j e)

  among_own : (i : ℕ) (ws : List ℕ) → Among (i ∷ ws) → (j : ℕ) → nat_eq i j ≡ true → Q j
  among_own i ws h j e = let same : i ≡ j = eqb-true i j e in subst Q same (h i (has_own i ws))

  mutual
    pub expr_writes : (e : Expr) (a : ℕ) → Among (walks_in e) → WritesIn Q (expr_code e a)
    expr_writes (constant c) a h = (λ j w. absurd (false≢true w), tt)
    expr_writes (local i) a h = (λ j w. absurd (false≢true w), tt)
    expr_writes (relation r) a h = (λ j w. absurd (false≢true w), tt)
    expr_writes (prim op args at) a h = writes_more Q (exprs_code args a) (Prim op at ∷ []) (exprs_write args a h) (λ j w. absurd (false≢true w), tt)
    expr_writes (chain first links) a h =
        writes_more Q (expr_code first a) (links_code links (expr_end first a)) (expr_writes first a (among_left (walks_in first) (walks_in_links links) h))
        (links_write links (expr_end first a) (among_right (walks_in first) (walks_in_links links) h))
    expr_writes (and_all args) a h = every_write args a (every_last args a) h
    expr_writes (or_any args) a h = some_write args a (some_end args a) h
    expr_writes (when_expr body hypos) a h =
        let b = hypos_end hypos a in
        writes_more Q (hypos_code hypos a) (expr_code body b ++ leaves (hypos_count hypos)) (hypos_write hypos a (among_right (walks_in body) (walks_in_hypos hypos) h))
        (writes_more Q (expr_code body b) (leaves (hypos_count hypos)) (expr_writes body b (among_left (walks_in body) (walks_in_hypos hypos) h)) (leaves_write Q (hypos_count hypos)))
    expr_writes (select i of body) a h =
        let l = expr_end of a + 1 in
        let ws = walks_in of ++ walks_in body in
        let rest = among_rest i ws h in
        writes_more Q (expr_code of a) _ (expr_writes of a (among_left (walks_in of) (walks_in body) rest)) (
          λ j w. absurd (false≢true w),
          (
            λ j w. among_own i ws h j w,
            writes_more Q (expr_code body (l + 1)) (Keep ∷ Back l ∷ Yield ∷ []) (expr_writes body (l + 1) (among_right (walks_in of) (walks_in body) rest))
                (λ j w. absurd (false≢true w), (λ j w. absurd (false≢true w), (λ j w. absurd (false≢true w), tt))),
          ),
        )
    expr_writes (map_each i of body) a h =
        let l = expr_end of a + 1 in
        let ws = walks_in of ++ walks_in body in
        let rest = among_rest i ws h in
        writes_more Q (expr_code of a) _ (expr_writes of a (among_left (walks_in of) (walks_in body) rest)) (
          λ j w. absurd (false≢true w),
          (
            λ j w. among_own i ws h j w,
            writes_more Q (expr_code body (l + 1)) (Gather ∷ Back l ∷ Yield ∷ []) (expr_writes body (l + 1) (among_right (walks_in of) (walks_in body) rest))
                (λ j w. absurd (false≢true w), (λ j w. absurd (false≢true w), (λ j w. absurd (false≢true w), tt))),
          ),
        )
    expr_writes (call k args) a h = writes_more Q (exprs_code args a) (Call k ∷ []) (exprs_write args a h) (λ j w. absurd (false≢true w), tt)
    expr_writes (host k args) a h = writes_more Q (exprs_code args a) (Host k ∷ []) (exprs_write args a h) (λ j w. absurd (false≢true w), tt)

    pub exprs_write : (es : Exprs) (a : ℕ) → Among (walks_in_all es) → WritesIn Q (exprs_code es a)
    exprs_write no_more a h = tt
    exprs_write (then_expr e es) a h =
        writes_more Q (expr_code e a) (exprs_code es (expr_end e a)) (expr_writes e a (among_left (walks_in e) (walks_in_all es) h)) (exprs_write es (expr_end e a) (among_right (walks_in e) (walks_in_all es) h))

    every_write : (es : Exprs) (a f : ℕ) → Among (walks_in_all es) → WritesIn Q (every_code es a f)
    every_write no_more a f h = (λ j w. absurd (false≢true w), tt)
    every_write (then_expr e no_more) a f h = writes_more Q (expr_code e a) (Jump (f + 1) ∷ push_bool false ∷ []) (expr_writes e a (among_left (walks_in e) [] h)) (λ j w. absurd (false≢true w), (λ j w. absurd (false≢true w), tt))
    every_write (then_expr e (then_expr d es)) a f h =
        writes_more Q (expr_code e a) (Unless f ∷ every_code (then_expr d es) (expr_end e a + 1) f) (expr_writes e a (among_left (walks_in e) (walks_in_all (then_expr d es)) h))
        (λ j w. absurd (false≢true w), every_write (then_expr d es) (expr_end e a + 1) f (among_right (walks_in e) (walks_in_all (then_expr d es)) h))

    some_write : (es : Exprs) (a x : ℕ) → Among (walks_in_all es) → WritesIn Q (some_code es a x)
    some_write no_more a x h = tt
    some_write (then_expr e no_more) a x h = expr_writes e a (among_left (walks_in e) [] h)
    some_write (then_expr e (then_expr d es)) a x h =
        let n = expr_end e a + 1 + 1 + 1 in
        writes_more Q (expr_code e a) (Unless n ∷ push_bool true ∷ Jump x ∷ some_code (then_expr d es) n x) (expr_writes e a (among_left (walks_in e) (walks_in_all (then_expr d es)) h))
        (λ j w. absurd (false≢true w), (λ j w. absurd (false≢true w), (λ j w. absurd (false≢true w), some_write (then_expr d es) n x (among_right (walks_in e) (walks_in_all (then_expr d es)) h))))

    links_write : (ls : Links) (a : ℕ) → Among (walks_in_links ls) → WritesIn Q (links_code ls a)
    links_write no_link a h = tt
    links_write (link op arg at rest) a h =
        writes_more Q (expr_code arg a) (Prim op at ∷ links_code rest (expr_end arg a + 1)) (expr_writes arg a (among_left (walks_in arg) (walks_in_links rest) h))
        (λ j w. absurd (false≢true w), links_write rest (expr_end arg a + 1) (among_right (walks_in arg) (walks_in_links rest) h))

    pub hypos_write : (hs : Hypos) (a : ℕ) → Among (walks_in_hypos hs) → WritesIn Q (hypos_code hs a)
    hypos_write no_hypo a h = tt
    hypos_write (hypo d at rest) a h =
        let m = hypos_end rest a in
        writes_more Q (hypos_code rest a) (expr_code d m ++ Enter at ∷ []) (hypos_write rest a (among_right (walks_in d) (walks_in_hypos rest) h))
        (writes_more Q (expr_code d m) (Enter at ∷ []) (expr_writes d m (among_left (walks_in d) (walks_in_hypos rest) h)) (λ j w. absurd (false≢true w), tt))

  -- ---- statements

  return_writes : (pl : Role) (j : ℕ) → is_writer (return_code pl) j ≡ true → Q j
  return_writes in_main j w = absurd (false≢true w)
  return_writes in_func j w = absurd (false≢true w)
  return_writes in_proc j w = absurd (false≢true w)

  mutual
    pub command_writes : (pl : Role) (c : Command) (a : ℕ) → Among (walks_of c) → Among (sets_of c) → WritesIn Q (command_code pl c a)
    command_writes pl (set_slot i e) a h g = writes_more Q (expr_code e a) (Store i ∷ []) (expr_writes e a h) (λ j w. among_own i [] g j w, tt)
    command_writes pl (if_arms arms other) a h g =
        let m = arms_end arms a in
        let x = block_end other m in
        writes_more Q (arms_code pl arms a x) (block_code pl other m) (arms_write pl arms a x (among_left (walks_of_arms arms) (walks_of_block other) h) (among_left (sets_of_arms arms) (sets_of_block other) g))
        (block_writes pl other m (among_right (walks_of_arms arms) (walks_of_block other) h) (among_right (sets_of_arms arms) (sets_of_block other) g))
    command_writes pl (while c block) a h g =
        let b = expr_end c a + 1 in
        writes_more Q (expr_code c a) (Unless (block_end block b + 1) ∷ (block_code pl block b ++ Back a ∷ [])) (expr_writes c a (among_left (walks_in c) (walks_of_block block) h))
        (λ j w. absurd (false≢true w), writes_more Q (block_code pl block b) (Back a ∷ []) (block_writes pl block b (among_right (walks_in c) (walks_of_block block) h) g) (λ j w. absurd (false≢true w), tt))
    command_writes pl (foreach i of block) a h g =
        let l = expr_end of a + 1 in
        let ws = walks_in of ++ walks_of_block block in
        let rest = among_rest i ws h in
        writes_more Q (expr_code of a) _ (expr_writes of a (among_left (walks_in of) (walks_of_block block) rest)) (
          λ j w. absurd (false≢true w),
          (
            λ j w. among_own i ws h j w,
            writes_more Q (block_code pl block (l + 1)) (Back l ∷ Drop ∷ []) (block_writes pl block (l + 1) (among_right (walks_in of) (walks_of_block block) rest) g)
                (λ j w. absurd (false≢true w), (λ j w. absurd (false≢true w), tt)),
          ),
        )
    command_writes pl (print e shape) a h g = writes_more Q (expr_code e a) (Print shape ∷ []) (expr_writes e a h) (λ j w. absurd (false≢true w), tt)
    command_writes pl (apply d at) a h g = writes_more Q (expr_code d a) (Apply at ∷ []) (expr_writes d a h) (λ j w. absurd (false≢true w), tt)
    command_writes pl (commit None) a h g = (λ j w. absurd (false≢true w), tt)
    command_writes pl (commit (Some label)) a h g = (λ j w. absurd (false≢true w), (λ j w. absurd (false≢true w), (λ j w. absurd (false≢true w), tt)))
    command_writes pl rollback a h g = (λ j w. absurd (false≢true w), tt)
    command_writes pl (assert c at) a h g = writes_more Q (expr_code c a) (Assert at ∷ []) (expr_writes c a h) (λ j w. absurd (false≢true w), tt)
    command_writes pl return a h g = (λ j w. return_writes pl j w, tt)
    command_writes pl (return_value e) a h g = writes_more Q (expr_code e a) (return_code pl ∷ []) (expr_writes e a h) (λ j w. return_writes pl j w, tt)
    command_writes pl (call_proc k args) a h g = writes_more Q (exprs_code args a) (Call k ∷ []) (exprs_write args a h) (λ j w. absurd (false≢true w), tt)

    pub block_writes : (pl : Role) (b : Block) (a : ℕ) → Among (walks_of_block b) → Among (sets_of_block b) → WritesIn Q (block_code pl b a)
    block_writes pl no_stmt a h g = tt
    block_writes pl (then_stmt c rest) a h g =
        let m = command_end c a in
        writes_more Q (command_code pl c a) (block_code pl rest m) (command_writes pl c a (among_left (walks_of c) (walks_of_block rest) h) (among_left (sets_of c) (sets_of_block rest) g))
        (block_writes pl rest m (among_right (walks_of c) (walks_of_block rest) h) (among_right (sets_of c) (sets_of_block rest) g))

    pub arms_write : (pl : Role) (arms : Arms) (a x : ℕ) → Among (walks_of_arms arms) → Among (sets_of_arms arms) → WritesIn Q (arms_code pl arms a x)
    arms_write pl no_arm a x h g = tt
    arms_write pl (arm c block rest) a x h g =
        let b = expr_end c a + 1 in
        let n = block_end block b + 1 in
        let front = among_left (walks_in c ++ walks_of_block block) (walks_of_arms rest) h in
        writes_more Q (expr_code c a) (Unless n ∷ (block_code pl block b ++ Jump x ∷ arms_code pl rest n x)) (expr_writes c a (among_left (walks_in c) (walks_of_block block) front)) (
          λ j w. absurd (false≢true w),
          writes_more Q (block_code pl block b) (Jump x ∷ arms_code pl rest n x) (block_writes pl block b (among_right (walks_in c) (walks_of_block block) front) (among_left (sets_of_block block) (sets_of_arms rest) g))
              (λ j w. absurd (false≢true w), arms_write pl rest n x (among_right (walks_in c ++ walks_of_block block) (walks_of_arms rest) h) (among_right (sets_of_block block) (sets_of_arms rest) g)),
        )

-- ---- where a slot is set: it is none of the walks, or that of a Foreach around it

module _ (sc : Scope) where
  abbrev pub May : List ℕ → List ℕ → ℕ → Type 0
  May inside ws j = (has_slot ws j ≡ true) ⊎ ((not (has_slot sc.walks j) || has_slot inside j) ≡ true)

  pub may_in : (inside ws vs : List ℕ) (j : ℕ) → (has_slot ws j ≡ true → has_slot vs j ≡ true) → May inside ws j → May inside vs j
  may_in inside ws vs j f (inl e) = inl (f e)
  may_in inside ws vs j f (inr e) = inr e

  -- in a Foreach its own slot too
  may_out : (inside ws vs : List ℕ) (i j : ℕ) → has_slot vs i ≡ true → (has_slot ws j ≡ true → has_slot vs j ≡ true) → May (i ∷ inside) ws j → May inside vs j
  may_out inside ws vs i j own f (inl e) = inl (f e)
  may_out inside ws vs i j own f (inr e) = by (or_cases (not (has_slot sc.walks j)) (has_slot (i ∷ inside) j) e)
    where
      by_eq : (nat_eq j i ≡ true) ⊎ (has_slot inside j ≡ true) → May inside vs j
      by_eq (inl q) = inl (ap (has_slot vs) (eqb-true j i q) ∙ own)
      by_eq (inr q) = inr (or_right (not (has_slot sc.walks j)) (has_slot inside j) q)

      by : (not (has_slot sc.walks j) ≡ true) ⊎ (has_slot (i ∷ inside) j ≡ true) → May inside vs j
      by (inl q) = inr (or_left (not (has_slot sc.walks j)) (has_slot inside j) q)
      by (inr q) = by_eq (or_cases (nat_eq j i) (has_slot inside j) q)

  mutual
    pub command_may : (seen rs inside : List ℕ) (c : Command) → IsSound sc seen rs inside c → (j : ℕ) → has_slot (sets_of c) j ≡ true → May inside (walks_of c) j
    command_may seen rs inside (set_slot i e) is j h = by (or_cases (nat_eq j i) false h)
      where
        by : (nat_eq j i ≡ true) ⊎ (false ≡ true) → May inside (walks_in e) j
        by (inl q) = inr (ap (λ j. not (has_slot sc.walks j) || has_slot inside j) (eqb-true j i q) ∙ is.3)
        by (inr q) = absurd (false≢true q)
    command_may seen rs inside (if_arms arms other) is j h =
        by (has_either (sets_of_arms arms) (sets_of_block other) j h) (λ q. arms_may seen rs inside arms is.0 j q) (λ q. block_may (seen ++ sets_of_arms arms) rs inside other is.1 j q)
      where
        ws : List ℕ
        ws = walks_of_arms arms ++ walks_of_block other

        by : (has_slot (sets_of_arms arms) j ≡ true) ⊎ (has_slot (sets_of_block other) j ≡ true) → (has_slot (sets_of_arms arms) j ≡ true → May inside (walks_of_arms arms) j) → (has_slot (sets_of_block other) j ≡ true → May inside (walks_of_block other) j) → May inside ws j
        by (inl q) f g = may_in inside (walks_of_arms arms) ws j (λ e. has_left (walks_of_arms arms) (walks_of_block other) j e) (f q)
        by (inr q) f g = may_in inside (walks_of_block other) ws j (λ e. has_right (walks_of_arms arms) (walks_of_block other) j e) (g q)
    command_may seen rs inside (while c block) is j h =
        may_in inside (walks_of_block block) (walks_in c ++ walks_of_block block) j (λ e. has_right (walks_in c) (walks_of_block block) j e) (block_may seen rs inside block is.1 j h)
    command_may seen rs inside (foreach i of block) is j h =
        let ws = walks_in of ++ walks_of_block block in
        may_out inside (walks_of_block block) (i ∷ ws) i j (has_own i ws) (λ e. has_more i ws j (has_right (walks_in of) (walks_of_block block) j e)) (block_may seen (i ∷ rs) (i ∷ inside) block is.3 j h)
    command_may seen rs inside (print e shape) is j h = absurd (false≢true h)
    command_may seen rs inside (apply d at) is j h = absurd (false≢true h)
    command_may seen rs inside (commit label) is j h = absurd (false≢true h)
    command_may seen rs inside rollback is j h = absurd (false≢true h)
    command_may seen rs inside (assert c at) is j h = absurd (false≢true h)
    command_may seen rs inside return is j h = absurd (false≢true h)
    command_may seen rs inside (return_value e) is j h = absurd (false≢true h)
    command_may seen rs inside (call_proc k args) is j h = absurd (false≢true h)

    pub block_may : (seen rs inside : List ℕ) (b : Block) → BlockIsSound sc seen rs inside b → (j : ℕ) → has_slot (sets_of_block b) j ≡ true → May inside (walks_of_block b) j
    block_may seen rs inside no_stmt is j h = absurd (false≢true h)
    block_may seen rs inside (then_stmt c rest) is j h = by (has_either (sets_of c) (sets_of_block rest) j h) (λ q. command_may seen rs inside c is.0 j q) (λ q. block_may (seen ++ sets_of c) _ inside rest is.1 j q)
      where
        ws : List ℕ
        ws = walks_of c ++ walks_of_block rest

        by : (has_slot (sets_of c) j ≡ true) ⊎ (has_slot (sets_of_block rest) j ≡ true) → (has_slot (sets_of c) j ≡ true → May inside (walks_of c) j) → (has_slot (sets_of_block rest) j ≡ true → May inside (walks_of_block rest) j) → May inside ws j
        by (inl q) f g = may_in inside (walks_of c) ws j (λ e. has_left (walks_of c) (walks_of_block rest) j e) (f q)
        by (inr q) f g = may_in inside (walks_of_block rest) ws j (λ e. has_right (walks_of c) (walks_of_block rest) j e) (g q)

    pub arms_may : (seen rs inside : List ℕ) (arms : Arms) → ArmsAreSound sc seen rs inside arms → (j : ℕ) → has_slot (sets_of_arms arms) j ≡ true → May inside (walks_of_arms arms) j
    arms_may seen rs inside no_arm is j h = absurd (false≢true h)
    arms_may seen rs inside (arm c block rest) is j h = by (has_either (sets_of_block block) (sets_of_arms rest) j h) (λ q. block_may seen rs inside block is.1 j q) (λ q. arms_may (seen ++ sets_of_block block) rs inside rest is.2 j q)
      where
        us : List ℕ
        us = walks_in c ++ walks_of_block block

        ws : List ℕ
        ws = us ++ walks_of_arms rest

        by : (has_slot (sets_of_block block) j ≡ true) ⊎ (has_slot (sets_of_arms rest) j ≡ true) → (has_slot (sets_of_block block) j ≡ true → May inside (walks_of_block block) j) → (has_slot (sets_of_arms rest) j ≡ true → May inside (walks_of_arms rest) j) → May inside ws j
        by (inl q) f g = may_in inside (walks_of_block block) ws j (λ e. has_left us (walks_of_arms rest) j (has_right (walks_in c) (walks_of_block block) j e)) (f q)
        by (inr q) f g = may_in inside (walks_of_arms rest) ws j (λ e. has_right us (walks_of_arms rest) j e) (g q)
