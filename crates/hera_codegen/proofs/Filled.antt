-- Jumps that are written later.
use Rattle.std.proofs.Common.{◌≡◌, ℕ, true, ◌+◌, List, [], ◌∷◌, ◌++◌, length, refl, sym, ap, ◌∙◌, arith, append_assoc, length-append}
use Rattle.std.specs.Prelude.{slice_set}
use Rattle.std.proofs.Math.Seq.{set-append_seam}
use Rattle.hera_meaning.specs.Trees.{Exprs, no_more, then_expr, Arms, no_arm, arm}
use Rattle.hera_meaning.specs.Addresses.{expr_end, block_end}
use Rattle.hera_code.specs.declared.instrs.Instr.{Instr}
use Rattle.hera_code.specs.declared.instrs.Instr.TheVariants.{Jump, Unless}
use Rattle.hera_code.specs.Scheme.{push_bool, expr_code, some_code, Role, block_code, arms_code}
use Rattle.hera_codegen.specs.Holes.{filled, every_front, every_holes, some_holes, arms_holes}
use Rattle.hera_codegen.proofs.Places.{expr_length, block_length}

-- an instruction in the midst of code is written anew
pub written : (pre X F suf : List Instr) (x i : Instr) (n : ℕ) → n ≡ length (pre ++ X) → slice_set (pre ++ ((X ++ x ∷ F) ++ suf)) n i ≡ ((pre ++ X) ++ i ∷ []) ++ (F ++ suf)
written pre X F suf x i n h =
    let flat : pre ++ ((X ++ x ∷ F) ++ suf) ≡ (pre ++ X) ++ x ∷ (F ++ suf) = simp append_assoc refl in
    ap (λ l. slice_set l n i) flat
    ∙ ap (λ m. slice_set ((pre ++ X) ++ x ∷ (F ++ suf)) m i) h
    ∙ set-append_seam (pre ++ X) x (F ++ suf) i
    ∙ sym (append_assoc (pre ++ X) (i ∷ []) (F ++ suf))

regrouped : (pre X F suf : List Instr) (i : Instr) → ((pre ++ X) ++ i ∷ []) ++ (F ++ suf) ≡ pre ++ ((X ++ i ∷ F) ++ suf)
regrouped pre X F suf i = simp append_assoc refl

pub every_filled : (f a : ℕ) (es : Exprs) (pre suf : List Instr) → length pre ≡ a →
    filled (Unless f) (every_holes es a) (pre ++ (every_front es a 0 ++ suf)) ≡ pre ++ (every_front es a f ++ suf)
every_filled f a no_more pre suf h = refl
every_filled f a (then_expr e no_more) pre suf h = refl
every_filled f a (then_expr e (then_expr d es)) pre suf h =
    let X = expr_code e a in
    let n = expr_end e a in
    let at : n ≡ length (pre ++ X) = omega (arith, h, length-append pre X, expr_length e a) in
    let next : length ((pre ++ X) ++ Unless f ∷ []) ≡ n + 1 = omega (arith, at, length-append (pre ++ X) (Unless f ∷ [])) in
    let F = every_front (then_expr d es) (n + 1) in
    ap (λ l. filled (Unless f) (every_holes (then_expr d es) (n + 1)) l) (written pre X (F 0) suf (Unless 0) (Unless f) n at)
    ∙ every_filled f (n + 1) (then_expr d es) ((pre ++ X) ++ Unless f ∷ []) suf next
    ∙ regrouped pre X (F f) suf (Unless f)

pub some_filled : (x a : ℕ) (es : Exprs) (pre suf : List Instr) → length pre ≡ a →
    filled (Jump x) (some_holes es a) (pre ++ (some_code es a 0 ++ suf)) ≡ pre ++ (some_code es a x ++ suf)
some_filled x a no_more pre suf h = refl
some_filled x a (then_expr e no_more) pre suf h = refl
some_filled x a (then_expr e (then_expr d es)) pre suf h =
    let n = expr_end e a + 1 + 1 + 1 in
    let front = Unless n ∷ push_bool true ∷ [] in
    let X = expr_code e a ++ front in
    let S = some_code (then_expr d es) n in
    let at : expr_end e a + 1 + 1 ≡ length (pre ++ X) = omega (arith, h, length-append pre X, length-append (expr_code e a) front, expr_length e a) in
    let next : length ((pre ++ X) ++ Jump x ∷ []) ≡ n = omega (arith, at, length-append (pre ++ X) (Jump x ∷ [])) in
    ap (λ l. filled (Jump x) (some_holes (then_expr e (then_expr d es)) a) (pre ++ (l ++ suf))) (sym (append_assoc (expr_code e a) front (Jump 0 ∷ S 0)))
    ∙ ap (λ l. filled (Jump x) (some_holes (then_expr d es) n) l) (written pre X (S 0) suf (Jump 0) (Jump x) (expr_end e a + 1 + 1) at)
    ∙ some_filled x n (then_expr d es) ((pre ++ X) ++ Jump x ∷ []) suf next
    ∙ regrouped pre X (S x) suf (Jump x)
    ∙ ap (λ l. pre ++ (l ++ suf)) (append_assoc (expr_code e a) front (Jump x ∷ S x))

pub arms_filled : (p : Role) (x a : ℕ) (arms : Arms) (pre suf : List Instr) → length pre ≡ a →
    filled (Jump x) (arms_holes arms a) (pre ++ (arms_code p arms a 0 ++ suf)) ≡ pre ++ (arms_code p arms a x ++ suf)
arms_filled p x a no_arm pre suf h = refl
arms_filled p x a (arm c block rest) pre suf h =
    let b = expr_end c a + 1 in
    let m = block_end block b in
    let n = m + 1 in
    let back = Unless n ∷ block_code p block b in
    let X = expr_code c a ++ back in
    let R = arms_code p rest n in
    let at : m ≡ length (pre ++ X) = omega (arith, h, length-append pre X, length-append (expr_code c a) back, expr_length c a, block_length p block b) in
    let next : length ((pre ++ X) ++ Jump x ∷ []) ≡ n = omega (arith, at, length-append (pre ++ X) (Jump x ∷ [])) in
    ap (λ l. filled (Jump x) (arms_holes (arm c block rest) a) (pre ++ (l ++ suf))) (sym (append_assoc (expr_code c a) back (Jump 0 ∷ R 0)))
    ∙ ap (λ l. filled (Jump x) (arms_holes rest n) l) (written pre X (R 0) suf (Jump 0) (Jump x) m at)
    ∙ arms_filled p x n rest ((pre ++ X) ++ Jump x ∷ []) suf next
    ∙ regrouped pre X (R x) suf (Jump x)
    ∙ ap (λ l. pre ++ (l ++ suf)) (append_assoc (expr_code c a) back (Jump x ∷ R x))
