-- The ranges of the slots of statements.
use Rattle.std.proofs.Common.{◌≡◌, ℕ, ◌+◌, ◌<◌, ◌≤◌, ◌⊎◌, List, [], ◌∷◌, ◌++◌, Some, None, refl, sym, ◌∙◌, subst, arith, inl, inr, append_assoc}
use Rattle.hera_meaning.specs.Trees.{Expr, Command, set_slot, if_arms, while, foreach, print, apply, commit, rollback, assert, return, return_value, call_proc, Block, no_stmt, then_stmt, Arms, no_arm, arm}
use Rattle.hera_meaning.specs.Addresses.{expr_end, exprs_end, command_end, block_end, arms_end}
use Rattle.hera_code.specs.declared.instrs.Instr.{Instr}
use Rattle.hera_code.specs.declared.instrs.Instr.TheVariants.{Store, Jump, Unless, Back, Walk, Next, Drop, Call, Ret, RetVal, Print, Apply, Commit, Rollback, Assert, Halt}
use Rattle.hera_code.specs.Scheme.{expr_code, exprs_code, Role, in_main, in_func, in_proc, return_code, command_code, block_code, arms_code}
use Rattle.hera_noted.proofs.Ranges.{Mark, mark, AllMarks, marks_more, Tame, To, Apart, Avoids, no_label, avoid_far, tame_none, tame_one, tame_as, tame_seq, tame_set, seq, still, wider, up, avoid_none, one_label, two_labels, around, past, expr_marks, exprs_marks, expr_tame, exprs_tame}

-- the range that a statement opens, up to the end of its block
abbrev pub set_mark : Command → (m z : ℕ) → List Mark
set_mark (set_slot i e) m z = mark i m z ∷ []
set_mark _ m z = []

abbrev mutual
  pub command_marks : Command → ℕ → List Mark
  command_marks (set_slot i e) a = expr_marks e a
  command_marks (if_arms arms other) a = arms_marks arms a ++ block_marks other (arms_end arms a) (block_end other (arms_end arms a))
  command_marks (while c block) a = expr_marks c a ++ (block_marks block (expr_end c a + 1) (block_end block (expr_end c a + 1)) ++ [])
  command_marks (foreach i of block) a =
      let b = expr_end of a + 1 + 1 in (mark i b (block_end block b) ∷ ((expr_marks of a ++ []) ++ block_marks block b (block_end block b))) ++ []
  command_marks (print e shape) a = expr_marks e a ++ []
  command_marks (apply d at) a = expr_marks d a ++ []
  command_marks (commit label) a = []
  command_marks rollback a = []
  command_marks (assert c at) a = expr_marks c a ++ []
  command_marks return a = []
  command_marks (return_value e) a = expr_marks e a ++ []
  command_marks (call_proc j args) a = exprs_marks args a ++ []

  pub block_marks : Block → (a z : ℕ) → List Mark
  block_marks no_stmt a z = []
  block_marks (then_stmt c rest) a z = set_mark c (command_end c a) z ++ (command_marks c a ++ block_marks rest (command_end c a) z)

  pub arms_marks : Arms → ℕ → List Mark
  arms_marks no_arm a = []
  arms_marks (arm c block rest) a =
      let b = expr_end c a + 1 in expr_marks c a ++ (block_marks block b (block_end block b) ++ arms_marks rest (block_end block b + 1))

module _ (pl : Role) where
  return_still : (pl' : Role) (a : ℕ) → Tame no_label a (a + 1) (return_code pl' ∷ []) []
  return_still in_main a = still a Halt (λ d n. n)
  return_still in_func a = still a RetVal (λ d n. n)
  return_still in_proc a = still a Ret (λ d n. n)

  expr_one : (e : Expr) (a : ℕ) (i : Instr) → Tame no_label (expr_end e a) (expr_end e a + 1) (i ∷ []) [] → Tame no_label a (expr_end e a + 1) (expr_code e a ++ i ∷ []) (expr_marks e a ++ [])
  expr_one e a i t = seq a (expr_end e a) (expr_end e a + 1) (expr_code e a) (i ∷ []) (expr_marks e a) [] (expr_tame e a) t

  -- a statement that opens no range, and the others
  one_more : (c : Command) (rest : Block) (a z : ℕ) → Tame no_label a (command_end c a) (command_code pl c a) (command_marks c a) → Tame no_label (command_end c a) z (block_code pl rest (command_end c a)) (block_marks rest (command_end c a) z) →
      Tame no_label a z (block_code pl (then_stmt c rest) a) (command_marks c a ++ block_marks rest (command_end c a) z)
  one_more c rest a z x y = seq a (command_end c a) z (command_code pl c a) (block_code pl rest (command_end c a)) (command_marks c a) (block_marks rest (command_end c a) z) x y

  -- a walk of a `foreach`: its operand, Walk, Next, its block, Back and Drop
  each_tame : (i a m z : ℕ) (xs ys : List Instr) (ms ns : List Mark) → Tame no_label a m xs ms → Tame no_label (m + 1 + 1) z ys ns →
      Tame no_label a (z + 1 + 1) (xs ++ Walk ∷ Next i (z + 1) ∷ (ys ++ Back (m + 1) ∷ Drop ∷ [])) ((mark i (m + 1 + 1) z ∷ ((ms ++ []) ++ ns)) ++ [])
  each_tame i a m z xs ys ms ns x y =
      let l = m + 1 in
      let o = z + 1 in
      let D = two_labels o l in
      let low : a ≤ m = up no_label a m xs ms x in
      let high : l + 1 ≤ z = up no_label (l + 1) z ys ns y in
      let walk : Tame no_label a l (xs ++ Walk ∷ []) (ms ++ []) = seq a m l xs (Walk ∷ []) ms [] x (still m Walk (λ d n. n)) in
      let av : Avoids D (ms ++ []) = avoid_far no_label D a l (xs ++ Walk ∷ []) (ms ++ []) walk (λ d e. far d e high) in
      let aw : Avoids D ns = avoid_far no_label D (l + 1) z ys ns y (λ d e. in_body d e) in
      let front = tame_set D a l z i (xs ++ Walk ∷ []) ys (Next i o) (ms ++ []) ns av aw (λ d e. own d e) (λ d n. inl (sym n)) (wider D a l (xs ++ Walk ∷ []) (ms ++ []) walk) (wider D (l + 1) z ys ns y) in
      let back : Tame D z (o + 1) (Back l ∷ Drop ∷ []) [] = record { long = omega arith; names = (λ d n. inr (inr (sym n)), (λ d n. absurd n, tt)); within = tt; safe = tt } in
      let all : List Mark = mark i (l + 1) z ∷ ((ms ++ []) ++ ns) in
      let whole = tame_seq D a z (o + 1) ((xs ++ Walk ∷ []) ++ Next i o ∷ ys) (Back l ∷ Drop ∷ []) all [] ((λ d e. own d e), marks_more (Apart D) (ms ++ []) ns av aw) tt front back in
      subst (λ is. Tame no_label a (o + 1) is (all ++ [])) (append_assoc (xs ++ Walk ∷ []) (Next i o ∷ ys) (Back l ∷ Drop ∷ []) ∙ append_assoc xs (Walk ∷ []) (Next i o ∷ (ys ++ Back l ∷ Drop ∷ [])))
      (tame_as D no_label a (o + 1) ((((xs ++ Walk ∷ []) ++ Next i o ∷ ys)) ++ Back l ∷ Drop ∷ []) (all ++ []) (λ d e. shut d e low high) whole)
    where
      far : (d : ℕ) → two_labels (z + 1) (m + 1) d → m + 1 + 1 ≤ z → (d ≤ a) ⊎ (m + 1 ≤ d)
      far d (inl e) high = inr (omega (arith, e, high))
      far d (inr e) high = inr (omega (arith, e))

      in_body : (d : ℕ) → two_labels (z + 1) (m + 1) d → (d ≤ m + 1 + 1) ⊎ (z ≤ d)
      in_body d (inl e) = inr (omega (arith, e))
      in_body d (inr e) = inl (omega (arith, e))

      own : (d : ℕ) → two_labels (z + 1) (m + 1) d → (d < m + 1 + 1) ⊎ (z ≤ d)
      own d (inl e) = inr (omega (arith, e))
      own d (inr e) = inl (omega (arith, e))

      shut : (d : ℕ) → two_labels (z + 1) (m + 1) d → a ≤ m → m + 1 + 1 ≤ z → To no_label a (z + 1 + 1) d
      shut d (inl e) low high = inl (omega (arith, e, low, high), omega (arith, e))
      shut d (inr e) low high = inl (omega (arith, e, low), omega (arith, e, high))

  mutual
    pub command_tame : (c : Command) (a : ℕ) → Tame no_label a (command_end c a) (command_code pl c a) (command_marks c a)
    command_tame (set_slot i e) a =
        let t = expr_one e a (Store i) (still (expr_end e a) (Store i) (λ d n. n)) in
        record { long = t.long; names = t.names; within = front _ (expr_marks e a) t.within; safe = front _ (expr_marks e a) t.safe }
      where
        front : (Q : Mark → Type 0) (ms : List Mark) → AllMarks Q (ms ++ []) → AllMarks Q ms
        front Q [] h = tt
        front Q (m ∷ ms) h = (h.0, front Q ms h.1)
    command_tame (if_arms arms other) a =
        let m = arms_end arms a in
        let x = block_end other m in
        let o = block_tame other m x refl in
        let high = up no_label m x (block_code pl other m) (block_marks other m x) o in
        let t = arms_tame arms a x high in
        let low = up (one_label x) a m (arms_code pl arms a x) (arms_marks arms a) t in
        let D = one_label x in
        tame_as D no_label a x (arms_code pl arms a x ++ block_code pl other m) (arms_marks arms a ++ block_marks other m x) (λ d e. inl (omega (arith, e, low, high), omega (arith, e)))
        (tame_seq D a m x (arms_code pl arms a x) (block_code pl other m) (arms_marks arms a) (block_marks other m x)
        (avoid_far D D a m (arms_code pl arms a x) (arms_marks arms a) t (λ d e. inr (omega (arith, e, high))))
        (avoid_far no_label D m x (block_code pl other m) (block_marks other m x) o (λ d e. inr (omega (arith, e)))) t (wider D m x (block_code pl other m) (block_marks other m x) o))
    command_tame (while c block) a =
        let m = expr_end c a in
        let b = block_end block (m + 1) in
        let x = b + 1 in
        let D = two_labels x a in
        let t = expr_tame c a in
        let o = block_tame block (m + 1) b refl in
        let low = up no_label a m (expr_code c a) (expr_marks c a) t in
        let high = up no_label (m + 1) b (block_code pl block (m + 1)) (block_marks block (m + 1) b) o in
        let ms = block_marks block (m + 1) b in
        let av : Avoids D ms = avoid_far no_label D (m + 1) b (block_code pl block (m + 1)) ms o (λ d e. swapped (around x a d e) (omega (arith, low))) in
        tame_as D no_label a x (expr_code c a ++ Unless x ∷ (block_code pl block (m + 1) ++ Back a ∷ [])) (expr_marks c a ++ (ms ++ [])) (λ d e. inl (loop_labels a x d e (omega (arith, low, high))))
        (tame_seq D a m x (expr_code c a) (Unless x ∷ (block_code pl block (m + 1) ++ Back a ∷ [])) (expr_marks c a) (ms ++ [])
        (avoid_far no_label D a m (expr_code c a) (expr_marks c a) t (λ d e. over (around x a d e) (omega (arith, high)))) (marks_more (Apart D) ms [] av tt) (wider D a m (expr_code c a) (expr_marks c a) t)
        (tame_seq D m (m + 1) x (Unless x ∷ []) (block_code pl block (m + 1) ++ Back a ∷ []) [] (ms ++ []) tt (marks_more (Apart D) ms [] av tt) (tame_one D m (Unless x) (λ d n. inr (inl (sym n))))
        (tame_seq D (m + 1) b x (block_code pl block (m + 1)) (Back a ∷ []) ms [] av tt (wider D (m + 1) b (block_code pl block (m + 1)) ms o) (tame_one D b (Back a) (λ d n. inr (inr (sym n)))))))
      where
        swapped : {d u v : ℕ} {x' : ℕ} → (d ≤ u) ⊎ (x' + 1 ≤ d) → u ≤ v → (d ≤ v) ⊎ (x' ≤ d)
        swapped (inl q) le = inl (omega (arith, q, le))
        swapped (inr q) le = inr (omega (arith, q))

        over : {d u x' m' : ℕ} → (d ≤ u) ⊎ (x' ≤ d) → m' ≤ x' → (d ≤ u) ⊎ (m' ≤ d)
        over (inl q) le = inl q
        over (inr q) le = inr (omega (arith, q, le))

        loop_labels : (a x d : ℕ) → two_labels x a d → a ≤ x → (a ≤ d) × (d ≤ x)
        loop_labels a x d (inl e) le = (omega (arith, e, le), omega (arith, e))
        loop_labels a x d (inr e) le = (omega (arith, e), omega (arith, e, le))
    command_tame (foreach i of block) a =
        let m = expr_end of a in
        let b = m + 1 + 1 in
        each_tame i a m (block_end block b) (expr_code of a) (block_code pl block b) (expr_marks of a) (block_marks block b (block_end block b)) (expr_tame of a) (block_tame block b (block_end block b) refl)
    command_tame (print e shape) a = expr_one e a (Print shape) (still (expr_end e a) (Print shape) (λ d n. n))
    command_tame (apply d at) a = expr_one d a (Apply at) (still (expr_end d a) (Apply at) (λ d n. n))
    command_tame (commit None) a = still a Commit (λ d n. n)
    command_tame (commit (Some label)) a = record { long = omega arith; names = (λ d n. absurd n, (λ d n. absurd n, (λ d n. absurd n, tt))); within = tt; safe = tt }
    command_tame rollback a = still a Rollback (λ d n. n)
    command_tame (assert c at) a = expr_one c a (Assert at) (still (expr_end c a) (Assert at) (λ d n. n))
    command_tame return a = return_still pl a
    command_tame (return_value e) a = expr_one e a (return_code pl) (return_still pl (expr_end e a))
    command_tame (call_proc j args) a = seq a (exprs_end args a) _ (exprs_code args a) (Call j ∷ []) (exprs_marks args a) [] (exprs_tame args a) (still (exprs_end args a) (Call j) (λ d n. n))

    pub block_tame : (b : Block) (a z : ℕ) → block_end b a ≡ z → Tame no_label a z (block_code pl b a) (block_marks b a z)
    block_tame no_stmt a z e = subst (λ b. Tame no_label a b [] []) e (tame_none no_label a)
    block_tame (then_stmt (set_slot i v) rest) a z e =
        let m = expr_end v a in
        let t = expr_tame v a in
        let r = block_tame rest (m + 1) z e in
        let ns = block_marks rest (m + 1) z in
        subst (λ is. Tame no_label a z is (mark i (m + 1) z ∷ (expr_marks v a ++ ns))) (sym (append_assoc (expr_code v a) (Store i ∷ []) (block_code pl rest (m + 1))))
        (tame_set no_label a m z i (expr_code v a) (block_code pl rest (m + 1)) (Store i) (expr_marks v a) ns (avoid_none (expr_marks v a)) (avoid_none ns) (λ d l. absurd l) (λ d n. n) t r)
    block_tame (then_stmt (if_arms arms other) rest) a z e = one_more (if_arms arms other) rest a z (command_tame (if_arms arms other) a) (block_tame rest (command_end (if_arms arms other) a) z e)
    block_tame (then_stmt (while c block) rest) a z e = one_more (while c block) rest a z (command_tame (while c block) a) (block_tame rest (command_end (while c block) a) z e)
    block_tame (then_stmt (foreach i of block) rest) a z e = one_more (foreach i of block) rest a z (command_tame (foreach i of block) a) (block_tame rest (command_end (foreach i of block) a) z e)
    block_tame (then_stmt (print v shape) rest) a z e = one_more (print v shape) rest a z (command_tame (print v shape) a) (block_tame rest (command_end (print v shape) a) z e)
    block_tame (then_stmt (apply d at) rest) a z e = one_more (apply d at) rest a z (command_tame (apply d at) a) (block_tame rest (command_end (apply d at) a) z e)
    block_tame (then_stmt (commit label) rest) a z e = one_more (commit label) rest a z (command_tame (commit label) a) (block_tame rest (command_end (commit label) a) z e)
    block_tame (then_stmt rollback rest) a z e = one_more rollback rest a z (command_tame rollback a) (block_tame rest (a + 1) z e)
    block_tame (then_stmt (assert c at) rest) a z e = one_more (assert c at) rest a z (command_tame (assert c at) a) (block_tame rest (command_end (assert c at) a) z e)
    block_tame (then_stmt return rest) a z e = one_more return rest a z (command_tame return a) (block_tame rest (a + 1) z e)
    block_tame (then_stmt (return_value v) rest) a z e = one_more (return_value v) rest a z (command_tame (return_value v) a) (block_tame rest (command_end (return_value v) a) z e)
    block_tame (then_stmt (call_proc j args) rest) a z e = one_more (call_proc j args) rest a z (command_tame (call_proc j args) a) (block_tame rest (command_end (call_proc j args) a) z e)

    arms_tame : (arms : Arms) (a x : ℕ) → arms_end arms a ≤ x → Tame (one_label x) a (arms_end arms a) (arms_code pl arms a x) (arms_marks arms a)
    arms_tame no_arm a x le = tame_none (one_label x) a
    arms_tame (arm c block rest) a x le =
        let m = expr_end c a in
        let b = block_end block (m + 1) in
        let n = b + 1 in
        let z = arms_end rest n in
        let D = two_labels x n in
        let t = expr_tame c a in
        let o = block_tame block (m + 1) b refl in
        let r = arms_tame rest n x le in
        let low = up no_label a m (expr_code c a) (expr_marks c a) t in
        let high = up no_label (m + 1) b (block_code pl block (m + 1)) (block_marks block (m + 1) b) o in
        let last = up (one_label x) n z (arms_code pl rest n x) (arms_marks rest n) r in
        let ms = block_marks block (m + 1) b in
        let ns = arms_marks rest n in
        let rest_tame : Tame D n z (arms_code pl rest n x) ns = tame_as (one_label x) D n z (arms_code pl rest n x) ns (λ d e. inr (inl e)) r in
        let av : Avoids D ms = avoid_far no_label D (m + 1) b (block_code pl block (m + 1)) ms o (λ d e. inr (past b x n d e (omega (arith, le, last)) (omega arith))) in
        let aw : Avoids D ns = avoid_far D D n z (arms_code pl rest n x) ns rest_tame (λ d e. far (around x n d e) le) in
        let ah : Avoids D (ms ++ ns) = marks_more (Apart D) ms ns av aw in
        tame_as D (one_label x) a z (expr_code c a ++ Unless n ∷ (block_code pl block (m + 1) ++ Jump x ∷ arms_code pl rest n x)) (expr_marks c a ++ (ms ++ ns)) (λ d e. closed a x n z d e (omega (arith, low, high)) last)
        (tame_seq D a m z (expr_code c a) (Unless n ∷ (block_code pl block (m + 1) ++ Jump x ∷ arms_code pl rest n x)) (expr_marks c a) (ms ++ ns)
        (avoid_far no_label D a m (expr_code c a) (expr_marks c a) t (λ d e. inr (past m x n d e (omega (arith, le, last, high)) (omega (arith, high))))) ah (wider D a m (expr_code c a) (expr_marks c a) t)
        (tame_seq D m (m + 1) z (Unless n ∷ []) (block_code pl block (m + 1) ++ Jump x ∷ arms_code pl rest n x) [] (ms ++ ns) tt ah (tame_one D m (Unless n) (λ d k. inr (inr (sym k))))
        (tame_seq D (m + 1) b z (block_code pl block (m + 1)) (Jump x ∷ arms_code pl rest n x) ms ns av aw (wider D (m + 1) b (block_code pl block (m + 1)) ms o)
        (tame_seq D b n z (Jump x ∷ []) (arms_code pl rest n x) [] ns tt aw (tame_one D b (Jump x) (λ d k. inr (inl (sym k)))) rest_tame))))
      where
        far : {d n' x' z' : ℕ} → (d ≤ n') ⊎ (x' ≤ d) → z' ≤ x' → (d ≤ n') ⊎ (z' ≤ d)
        far (inl q) le = inl q
        far (inr q) le = inr (omega (arith, q, le))

        closed : (a x n z d : ℕ) → two_labels x n d → a ≤ n → n ≤ z → To (one_label x) a z d
        closed a x n z d (inl e) le ge = inr e
        closed a x n z d (inr e) le ge = inl (omega (arith, e, le), omega (arith, e, ge))
