-- What the rules ask of places alone holds of all code of sound statements, reached or not.
use Rattle.std.proofs.Common.{◌≡◌, ℕ, ◌+◌, ◌<◌, ◌≤◌, true, false, cond, List, [], ◌∷◌, ◌++◌, length, Option, Some, None, refl, sym, ap, ◌∙◌, subst, arith}
use Rattle.std.specs.Prelude.{slice_get, nat_eq, nat_lt, not, is_some}
use Rattle.std.proofs.lemmas.Bool.{false≢true, and_from, lt-ltb, eq-eqb, ne_eqb}
use Rattle.hera_meaning.specs.Trees.{Expr, Exprs, no_more, then_expr, Command, set_slot, if_arms, while, foreach, print, apply, commit, rollback, assert, return, return_value, call_proc, Block, no_stmt, then_stmt, Arms, no_arm, arm}
use Rattle.hera_meaning.specs.Addresses.{expr_end, exprs_end, command_end, block_end, arms_end}
use Rattle.hera_meaning.specs.Forms.{Form, of_tuple, of_table, of_delta, bool_form, form_of}
use Rattle.hera_meaning.specs.Sound.{Scope, IsOf, AreOf, IsSound, BlockIsSound, ArmsAreSound, sets_of, sets_of_block, sets_of_arms, readable_after}
use Rattle.hera_code.specs.declared.instrs.Code.{Code}
use Rattle.hera_code.specs.declared.instrs.Instr.{Instr}
use Rattle.hera_code.specs.declared.instrs.Instr.TheVariants.{Store, Jump, Unless, Back, Walk, Next, Drop, Call, Print, Apply, Assert}
use Rattle.hera_code.specs.Scheme.{expr_code, exprs_code, Role, in_main, in_func, in_proc, return_code, command_code, block_code, arms_code}
use Rattle.hera_codegen.proofs.Places.{HasAt, has_front, all_behind, expr_length, exprs_length, command_length, block_length, arms_length}
use Rattle.hera_typed.specs.Points.{Point, nothing, with}
use Rattle.hera_typed.specs.Effects.{Slot_note, Body_note, result, gathered_by, is_placed}
use Rattle.hera_typed.specs.Typed.{Points}
use Rattle.hera_typed.proofs.Asking.{some_is}
use Rattle.hera_noted.proofs.Expr_points.{after, expr_points, expr_many, Laid, laid_front, laid_behind}
use Rattle.hera_noted.proofs.Expr_ends.{expr_up, exprs_up}
use Rattle.hera_noted.proofs.Expr_flows.{Noted, NotedAll, Fits, Covered, Followed, Flows, seen_below, expr_flows, covered}
use Rattle.hera_noted.proofs.Block_flows.{RoleFits, NotedCommand, NotedBlock, NotedArms, cover_after}

-- ---- points laid out, and none elsewhere

abbrev pub laid_at : ℕ → List (Option Point) → Points
laid_at a [] c = None
laid_at a (o ∷ os) c = cond (nat_eq c a) o (laid_at (a + 1) os c)

at_later : (a c : ℕ) (o : Option Point) (os : List (Option Point)) → a + 1 ≤ c → laid_at a (o ∷ os) c ≡ laid_at (a + 1) os c
at_later a c o os le = ap (λ t. cond t o (laid_at (a + 1) os c)) (ne_eqb c a (λ e. omega (arith, le, e)))

laid_alike : (P Q : Points) (b : ℕ) (os : List (Option Point)) → ((c : ℕ) → b ≤ c → P c ≡ Q c) → Laid Q b os → Laid P b os
laid_alike P Q b [] f h = tt
laid_alike P Q b (o ∷ os) f h = (f b (omega arith) ∙ h.0, laid_alike P Q (b + 1) os (λ c le. f c (omega (arith, le))) h.1)

pub laid_itself : (a : ℕ) (os : List (Option Point)) → Laid (laid_at a os) a os
laid_itself a [] = tt
laid_itself a (o ∷ os) = (ap (λ t. cond t o (laid_at (a + 1) os a)) (eq-eqb a a refl), laid_alike (laid_at a (o ∷ os)) (laid_at (a + 1) os) (a + 1) os (λ c le. at_later a c o os le) (laid_itself (a + 1) os))

pub none_past : (a c : ℕ) (os : List (Option Point)) → a + length os ≤ c → laid_at a os c ≡ None
none_past a c [] le = refl
none_past a c (o ∷ os) le = at_later a c o os (omega (arith, le)) ∙ none_past (a + 1) c os (omega (arith, le))

module _ (code : Code) (sc : Scope) (notes : List Body_note) (k : ℕ) where
  abbrev pub PlacedAt : ℕ → Instr → Type 0
  PlacedAt a i = (is_placed code notes k a i ≡ true) × Followed code sc notes k a i

  abbrev pub PlacedIn : ℕ → List Instr → Type 0
  PlacedIn a [] = Unit {0}
  PlacedIn a (i ∷ is) = PlacedAt a i × PlacedIn (a + 1) is

  pub placed_more : (a b : ℕ) (xs ys : List Instr) → a + length xs ≡ b → PlacedIn a xs → PlacedIn b ys → PlacedIn a (xs ++ ys)
  placed_more a b [] ys e h g = let q : b ≡ a = omega (arith, e) in subst (λ n. PlacedIn n ys) q g
  placed_more a b (x ∷ xs) ys e h g = (h.0, placed_more (a + 1) b xs ys (omega (arith, e)) h.1 g)

  flows_placed : (P : Points) (lo hi a : ℕ) (is : List Instr) → Flows code sc notes k P lo hi a is → PlacedIn a is
  flows_placed P lo hi a [] h = tt
  flows_placed P lo hi a (i ∷ is) h = ((h.0.placed, h.0.followed), flows_placed P lo hi (a + 1) is h.1)

  narrowed : (rs : List ℕ) (a b c d : ℕ) → Covered code sc notes k rs a b → a ≤ c → d ≤ b → Covered code sc notes k rs c d
  narrowed rs a b c d cov le ge = record { set = λ i e n r there low high. cov.set i e n r there (omega (arith, le, low)) (omega (arith, ge, high)) }

  module _ (fits : Fits code sc notes k) where
    -- all of an expression is reached
    expr_placed : (rs : List ℕ) (e : Expr) (f : Form) (a : ℕ) → IsOf sc rs e f → Noted code sc notes k e a → HasAt code.instrs a (expr_code e a) → Covered code sc notes k rs a (expr_end e a) → PlacedIn a (expr_code e a)
    expr_placed rs e f a is n has cov =
        let os = expr_points sc.rels sc.hosts notes k e nothing in
        let last : List (Option Point) = Some (after sc.rels sc.hosts notes k e nothing) ∷ [] in
        let P : Points = laid_at a (os ++ last) in
        let laid = laid_itself a (os ++ last) in
        let end = laid_behind P a os last (expr_end e a) (expr_many sc.rels sc.hosts notes k e nothing a) laid in
        flows_placed P a (expr_end e a) a (expr_code e a) (expr_flows code sc notes k P a (expr_end e a) fits rs e f a nothing is n has (laid_front P a os last laid) end.0 (omega arith) (omega arith) cov)

    exprs_placed : (rs : List ℕ) (es : Exprs) (fs : List Form) (a : ℕ) → AreOf sc rs es fs → NotedAll code sc notes k es a → HasAt code.instrs a (exprs_code es a) → Covered code sc notes k rs a (exprs_end es a) → PlacedIn a (exprs_code es a)
    exprs_placed rs no_more fs a is n has cov = tt
    exprs_placed rs (then_expr e es) [] a is n has cov = absurd is
    exprs_placed rs (then_expr e es) (f ∷ fs) a is n has cov =
        let m = expr_end e a in
        let up = expr_up e a in
        let more = exprs_up es m in
        placed_more a m (expr_code e a) (exprs_code es m) (expr_length e a)
        (expr_placed rs e f a is.0 n.0 (has_front code.instrs a (expr_code e a) (exprs_code es m) has) (narrowed rs a (exprs_end es m) a m cov (omega arith) more))
        (exprs_placed rs es fs m is.1 n.1 (all_behind code.instrs a (expr_code e a) (exprs_code es m) m (expr_length e a) has) (narrowed rs a (exprs_end es m) m (exprs_end es m) cov up (omega arith)))

    module _ (pl : Role) (place : RoleFits code sc notes k pl) where
      -- an expression and one instruction
      value_placed : (rs : List ℕ) (e : Expr) (f : Form) (a : ℕ) (i : Instr) → IsOf sc rs e f → Noted code sc notes k e a → HasAt code.instrs a (expr_code e a ++ i ∷ []) → Covered code sc notes k rs a (expr_end e a + 1) → PlacedAt (expr_end e a) i → PlacedIn a (expr_code e a ++ i ∷ [])
      value_placed rs e f a i is n has cov h =
          placed_more a (expr_end e a) (expr_code e a) (i ∷ []) (expr_length e a)
          (expr_placed rs e f a is n (has_front code.instrs a (expr_code e a) (i ∷ []) has) (narrowed rs a (expr_end e a + 1) a (expr_end e a) cov (omega arith) (omega arith))) (h, tt)

      return_placed : (pl' : Role) → RoleFits code sc notes k pl' → (a : ℕ) → sc.func ≡ false → PlacedAt a (return_code pl')
      return_placed in_main h a no_func = (eq-eqb k 0 h.0, tt)
      return_placed in_func h a no_func = absurd (false≢true (sym no_func ∙ h.0))
      return_placed in_proc h a no_func = (and_from (nat_lt 0 k) (not (is_some (result notes k))) (lt-ltb 0 k h.1) (ap (λ o. not (is_some o)) h.2), tt)

      result_placed : (pl' : Role) → RoleFits code sc notes k pl' → (a : ℕ) (f : Form) → sc.func ≡ true → sc.own.result ≡ Some f → PlacedAt a (return_code pl')
      result_placed in_main h a f func res = absurd (false≢true (sym h.1 ∙ func))
      result_placed in_func h a f func res = (ap is_some (h.1 f res), tt)
      result_placed in_proc h a f func res = absurd (false≢true (sym h.0 ∙ func))

      mutual
        pub command_placed : (seen rs inside : List ℕ) (c : Command) (a : ℕ) → IsSound sc seen rs inside c → NotedCommand code sc notes k seen c a → HasAt code.instrs a (command_code pl c a) → Covered code sc notes k rs a (command_end c a) → PlacedIn a (command_code pl c a)
        command_placed seen rs inside (set_slot i e) a is n has cov = value_placed rs e is.0 a (Store i) is.2 n has cov (refl, tt)
        command_placed seen rs inside (if_arms arms other) a is n has cov =
            let m = arms_end arms a in
            let x = block_end other m in
            let up = arms_length pl arms a x in
            let more = block_length pl other m in
            placed_more a m (arms_code pl arms a x) (block_code pl other m) (arms_length pl arms a x)
            (arms_placed seen rs inside arms a x is.0 n.0 (omega (arith, more)) (has_front code.instrs a (arms_code pl arms a x) (block_code pl other m) has) (narrowed rs a x a m cov (omega arith) (omega (arith, more))))
            (block_placed (seen ++ sets_of_arms arms) rs inside other m x refl is.1 n.1 (all_behind code.instrs a (arms_code pl arms a x) (block_code pl other m) m (arms_length pl arms a x) has) (narrowed rs a x m x cov (omega (arith, up)) (omega arith)))
        command_placed seen rs inside (while c block) a is n has cov =
            let m = expr_end c a in
            let b = block_end block (m + 1) in
            let x = b + 1 in
            let rest : List Instr = Unless x ∷ (block_code pl block (m + 1) ++ Back a ∷ []) in
            let up = expr_up c a in
            let more = block_length pl block (m + 1) in
            let ahead : m < x = omega (arith, more) in
            let behind = all_behind code.instrs a (expr_code c a) rest m (expr_length c a) has in
            placed_more a m (expr_code c a) rest (expr_length c a) (expr_placed rs c bool_form a is.0 n.0 (has_front code.instrs a (expr_code c a) rest has) (narrowed rs a x a m cov (omega arith) (omega (arith, ahead)))) (
              (lt-ltb m x ahead, tt),
              placed_more (m + 1) b (block_code pl block (m + 1)) (Back a ∷ []) (block_length pl block (m + 1))
                  (block_placed seen rs inside block (m + 1) b refl is.1 n.1 (has_front code.instrs (m + 1) (block_code pl block (m + 1)) (Back a ∷ []) behind.1) (narrowed rs a x (m + 1) b cov (omega (arith, up)) (omega arith))) ((refl, tt), tt),
            )
        command_placed seen rs inside (foreach i of block) a is n has cov =
            let m = expr_end of a in
            let l = m + 1 in
            let b = block_end block (l + 1) in
            let x = b + 1 in
            let rest : List Instr = block_code pl block (l + 1) ++ Back l ∷ Drop ∷ [] in
            let up = expr_up of a in
            let more = block_length pl block (l + 1) in
            let ahead : l < x = omega (arith, more) in
            let behind = all_behind code.instrs a (expr_code of a) (Walk ∷ Next i x ∷ rest) m (expr_length of a) has in
            let w = n.1.1 in
            let s = fits.slots i (of_tuple is.0) is.2 in
            let same : s.0 ≡ w.note = some_is s.0 w.note (sym s.1 ∙ w.there) in
            let form : w.note.form ≡ of_tuple is.0 = ap (λ (n : Slot_note). n.form) (sym same) ∙ s.2 in
            let below = seen_below code sc notes k (λ c. None) 0 0 fits rs of (of_table is.0) a is.1 n.0 in
            let followed : is_some (gathered_by notes k (slice_get code.instrs l)) ≡ true = ap is_some (ap (gathered_by notes k) behind.1.0 ∙ ap (λ o. with o (λ n. n.gathers)) w.there ∙ w.gathers_is) in
            placed_more a m (expr_code of a) (Walk ∷ Next i x ∷ rest) (expr_length of a)
            (expr_placed rs of (of_table is.0) a is.1 n.0 (has_front code.instrs a (expr_code of a) (Walk ∷ Next i x ∷ rest) has) (narrowed rs a (x + 1) a m cov (omega arith) (omega (arith, more)))) (
              (refl, followed),
              (
                (lt-ltb l x ahead, tt),
                placed_more (l + 1) b (block_code pl block (l + 1)) (Back l ∷ Drop ∷ []) (block_length pl block (l + 1))
                    (block_placed seen (i ∷ rs) (i ∷ inside) block (l + 1) b refl is.3 n.2 (has_front code.instrs (l + 1) (block_code pl block (l + 1)) (Back l ∷ Drop ∷ []) behind.1.1)
                    (covered code sc notes k (λ c. None) 0 0 fits rs i of is.0 n.1.0 a nothing b x w form below ahead cov (omega arith))) ((refl, tt), ((refl, tt), tt)),
              ),
            )
        command_placed seen rs inside (print e shape) a is n has cov = value_placed rs e (form_of shape) a (Print shape) is.0 n has cov (refl, tt)
        command_placed seen rs inside (apply d at) a is n has cov = value_placed rs d of_delta a (Apply at) is.0 n has cov (refl, tt)
        command_placed seen rs inside (commit None) a is n has cov = ((refl, tt), tt)
        command_placed seen rs inside (commit (Some label)) a is n has cov = ((refl, tt), ((refl, tt), ((refl, tt), tt)))
        command_placed seen rs inside rollback a is n has cov = ((refl, tt), tt)
        command_placed seen rs inside (assert c at) a is n has cov = value_placed rs c bool_form a (Assert at) is n has cov (refl, tt)
        command_placed seen rs inside return a is n has cov = (return_placed pl place a is, tt)
        command_placed seen rs inside (return_value e) a is n has cov = value_placed rs e is.0 a (return_code pl) is.1 n has cov (result_placed pl place (expr_end e a) is.0 is.3 is.2)
        command_placed seen rs inside (call_proc j args) a is n has cov =
            let m = exprs_end args a in
            let c = fits.calls j false is.0 None is.2 in
            placed_more a m (exprs_code args a) (Call j ∷ []) (exprs_length args a)
            (exprs_placed rs args is.0 a is.1 n (has_front code.instrs a (exprs_code args a) (Call j ∷ []) has) (narrowed rs a (m + 1) a m cov (omega arith) (omega arith))) ((lt-ltb 0 j c.behind_main, tt), tt)

        pub block_placed : (seen rs inside : List ℕ) (b : Block) (a z : ℕ) → block_end b a ≡ z → BlockIsSound sc seen rs inside b → NotedBlock code sc notes k seen b a z → HasAt code.instrs a (block_code pl b a) → Covered code sc notes k rs a z → PlacedIn a (block_code pl b a)
        block_placed seen rs inside no_stmt a z end is n has cov = tt
        block_placed seen rs inside (then_stmt c rest) a z end is n has cov =
            let m = command_end c a in
            let up = command_length pl c a in
            let more = block_length pl rest m in
            placed_more a m (command_code pl c a) (block_code pl rest m) (command_length pl c a)
            (command_placed seen rs inside c a is.0 n.0 (has_front code.instrs a (command_code pl c a) (block_code pl rest m) has) (narrowed rs a z a m cov (omega arith) (omega (arith, more, end))))
            (block_placed (seen ++ sets_of c) (readable_after seen rs c) inside rest m z end is.1 n.2 (all_behind code.instrs a (command_code pl c a) (block_code pl rest m) m (command_length pl c a) has)
            (cover_after code sc notes k seen rs c m z (narrowed rs a z m z cov (omega (arith, up)) (omega arith)) n.1))

        pub arms_placed : (seen rs inside : List ℕ) (arms : Arms) (a x : ℕ) → ArmsAreSound sc seen rs inside arms → NotedArms code sc notes k seen arms a → arms_end arms a ≤ x → HasAt code.instrs a (arms_code pl arms a x) → Covered code sc notes k rs a (arms_end arms a) → PlacedIn a (arms_code pl arms a x)
        arms_placed seen rs inside no_arm a x is n le has cov = tt
        arms_placed seen rs inside (arm c block rest) a x is n le has cov =
            let m = expr_end c a in
            let z = block_end block (m + 1) in
            let t = z + 1 in
            let far = arms_end rest t in
            let last : List Instr = Jump x ∷ arms_code pl rest t x in
            let codes : List Instr = Unless t ∷ (block_code pl block (m + 1) ++ last) in
            let up = expr_up c a in
            let more = block_length pl block (m + 1) in
            let rest_up = arms_length pl rest t x in
            let ahead : m < t = omega (arith, more) in
            let over : z < x = omega (arith, rest_up, le) in
            let behind = all_behind code.instrs a (expr_code c a) codes m (expr_length c a) has in
            let ends = all_behind code.instrs (m + 1) (block_code pl block (m + 1)) last z (block_length pl block (m + 1)) behind.1 in
            placed_more a m (expr_code c a) codes (expr_length c a) (expr_placed rs c bool_form a is.0 n.0 (has_front code.instrs a (expr_code c a) codes has) (narrowed rs a far a m cov (omega arith) (omega (arith, ahead, rest_up)))) (
              (lt-ltb m t ahead, tt),
              placed_more (m + 1) z (block_code pl block (m + 1)) last (block_length pl block (m + 1))
                  (block_placed seen rs inside block (m + 1) z refl is.1 n.1 (has_front code.instrs (m + 1) (block_code pl block (m + 1)) last behind.1) (narrowed rs a far (m + 1) z cov (omega (arith, up)) (omega (arith, rest_up))))
                  ((lt-ltb z x over, tt), arms_placed (seen ++ sets_of_block block) rs inside rest t x is.2 n.2 le ends.1 (narrowed rs a far t far cov (omega (arith, up, more)) (omega arith))),
            )
