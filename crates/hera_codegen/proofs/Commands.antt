-- The code of statements, put together.
use Rattle.std.proofs.Common.{◌≡◌, ◌<◌, ℕ, ◌+◌, List, [], ◌∷◌, ◌++◌, length, drop, get_or, refl, sym, ap, ◌∙◌, arith, append_assoc, append-nil, length-append}
use Rattle.std.specs.Prelude.{slice_set}
use Rattle.hera_meaning.specs.declared.trees.Stmt.{Stmt}
use Rattle.hera_meaning.specs.declared.trees.Arm.{Arm}
use Rattle.hera_meaning.specs.Trees.{Expr, Block, Arms, arm, while, foreach, if_arms}
use Rattle.hera_meaning.specs.Plain.{expr_of, command_of, block_in, arms_in}
use Rattle.hera_meaning.specs.Addresses.{expr_end, command_end, block_end, arms_end}
use Rattle.hera_code.specs.declared.instrs.Instr.{Instr}
use Rattle.hera_code.specs.declared.instrs.Instr.TheVariants.{Walk, Next, Back, Drop, Jump, Unless}
use Rattle.hera_code.specs.Scheme.{expr_code, Role, command_code, block_code, arms_code}
use Rattle.hera_codegen.specs.Holes.{filled, arms_holes}
use Rattle.hera_codegen.specs.Roles.{arm_front}
use Rattle.hera_codegen.proofs.Places.{expr_length, command_length, block_length, arms_length}
use Rattle.hera_codegen.proofs.Filled.{written, arms_filled}
use Rattle.hera_codegen.proofs.Emitted.{drop_item, placed}

pub block_go : (p : Role) (items : List Stmt) (i : ℕ) (x : Stmt) (c c' R : List Instr) → i < length items → x ≡ get_or items i x → c' ≡ c ++ command_code p (command_of x) (length c) →
    c ++ block_code p (block_in (drop i items)) (length c) ≡ R → c' ++ block_code p (block_in (drop (i + 1) items)) (length c') ≡ R
block_go p items i x c c' R lt is h inv =
    let a = length c in
    let C = command_code p (command_of x) a in
    let b = command_end (command_of x) a in
    let at : length c' ≡ b = ap length h ∙ length-append c C ∙ command_length p (command_of x) a in
    let B = block_code p (block_in (drop (i + 1) items)) in
    ap (λ n. c' ++ B n) at
    ∙ ap (λ l. l ++ B b) h
    ∙ append_assoc c C (B b)
    ∙ sym (ap (λ xs. c ++ block_code p (block_in xs) a) (drop_item items i x lt is))
    ∙ inv

pub while_closed : (p : Role) (cond : Expr) (block : Block) (start hole : ℕ) (c0 c1 c2 c3 c4 c5 : List Instr) → start ≡ length c0 → c1 ≡ c0 ++ expr_code cond (length c0) → c2 ≡ c1 ++ Unless 0 ∷ [] → hole ≡ length c1 →
    c3 ≡ c2 ++ block_code p block (length c2) → c4 ≡ c3 ++ Back start ∷ [] → c5 ≡ slice_set c4 hole (Unless (length c4 + 0)) → c5 ≡ c0 ++ command_code p (while cond block) (length c0)
while_closed p cond block start hole c0 c1 c2 c3 c4 c5 hs h1 h2 hh h3 h4 h5 =
    let a = length c0 in
    let b = expr_end cond a + 1 in
    let x = block_end block b + 1 in
    let E = expr_code cond a in
    let B = block_code p block b in
    let at1 : hole ≡ expr_end cond a = hh ∙ placed c0 c1 cond h1 in
    let at2 : length c2 ≡ b = omega (arith, ap length h2, length-append c1 (Unless 0 ∷ []), placed c0 c1 cond h1) in
    let h3' : c3 ≡ c2 ++ B = h3 ∙ ap (λ n. c2 ++ block_code p block n) at2 in
    let at4 : length c4 + 0 ≡ x = omega (arith, ap length h4, length-append c3 (Back start ∷ []), ap length h3', length-append c2 B, at2, block_length p block b) in
    let F = B ++ Back a ∷ [] in
    let all : c4 ≡ (((c0 ++ E) ++ Unless 0 ∷ []) ++ B) ++ Back a ∷ [] =
    h4 ∙ ap (λ n. c3 ++ Back n ∷ []) hs ∙ ap (λ m. m ++ Back a ∷ []) (h3' ∙ ap (λ m. m ++ B) (h2 ∙ ap (λ m. m ++ Unless 0 ∷ []) h1)) in
    let flat : (((c0 ++ E) ++ Unless 0 ∷ []) ++ B) ++ Back a ∷ [] ≡ c0 ++ ((E ++ Unless 0 ∷ F) ++ []) = simp (append_assoc, append-nil) refl in
    let place : expr_end cond a ≡ length (c0 ++ E) = omega (arith, length-append c0 E, expr_length cond a) in
    let end : ((c0 ++ E) ++ Unless x ∷ []) ++ (F ++ []) ≡ c0 ++ command_code p (while cond block) a = simp (append_assoc, append-nil) refl in
    h5
    ∙ ap (λ n. slice_set c4 hole (Unless n)) at4
    ∙ ap (λ n. slice_set c4 n (Unless x)) at1
    ∙ ap (λ m. slice_set m (expr_end cond a) (Unless x)) (all ∙ flat)
    ∙ written c0 E F [] (Unless 0) (Unless x) (expr_end cond a) place
    ∙ end

pub arm_closed : (p : Role) (cond : Expr) (block : Block) (hole : ℕ) (c0 c1 c2 c3 c4 : List Instr) → c1 ≡ c0 ++ expr_code cond (length c0) → c2 ≡ c1 ++ Unless 0 ∷ [] → hole ≡ length c1 →
    c3 ≡ c2 ++ block_code p block (length c2) → c4 ≡ slice_set c3 hole (Unless (length c3 + 1)) → c4 ≡ c0 ++ arm_front p cond block (length c0)
arm_closed p cond block hole c0 c1 c2 c3 c4 h1 h2 hh h3 h4 =
    let a = length c0 in
    let b = expr_end cond a + 1 in
    let x = block_end block b + 1 in
    let E = expr_code cond a in
    let B = block_code p block b in
    let at1 : hole ≡ expr_end cond a = hh ∙ placed c0 c1 cond h1 in
    let at2 : length c2 ≡ b = omega (arith, ap length h2, length-append c1 (Unless 0 ∷ []), placed c0 c1 cond h1) in
    let h3' : c3 ≡ c2 ++ B = h3 ∙ ap (λ n. c2 ++ block_code p block n) at2 in
    let at3 : length c3 + 1 ≡ x = omega (arith, ap length h3', length-append c2 B, at2, block_length p block b) in
    let all : c3 ≡ ((c0 ++ E) ++ Unless 0 ∷ []) ++ B = h3' ∙ ap (λ m. m ++ B) (h2 ∙ ap (λ m. m ++ Unless 0 ∷ []) h1) in
    let flat : ((c0 ++ E) ++ Unless 0 ∷ []) ++ B ≡ c0 ++ ((E ++ Unless 0 ∷ B) ++ []) = simp (append_assoc, append-nil) refl in
    let place : expr_end cond a ≡ length (c0 ++ E) = omega (arith, length-append c0 E, expr_length cond a) in
    let end : ((c0 ++ E) ++ Unless x ∷ []) ++ (B ++ []) ≡ c0 ++ arm_front p cond block a = simp (append_assoc, append-nil) refl in
    h4
    ∙ ap (λ n. slice_set c3 hole (Unless n)) at3
    ∙ ap (λ n. slice_set c3 n (Unless x)) at1
    ∙ ap (λ m. slice_set m (expr_end cond a) (Unless x)) (all ∙ flat)
    ∙ written c0 E B [] (Unless 0) (Unless x) (expr_end cond a) place
    ∙ end

pub foreach_closed : (p : Role) (i : ℕ) (of : Expr) (block : Block) (start : ℕ) (c0 c1 c2 c3 c4 c5 : List Instr) → c1 ≡ c0 ++ expr_code of (length c0) → c2 ≡ c1 ++ Walk ∷ Next i 0 ∷ [] → start ≡ length c1 + 1 →
    c3 ≡ c2 ++ block_code p block (length c2) → c4 ≡ slice_set (c3 ++ Back start ∷ []) start (Next i (length c3 + 1)) → c5 ≡ c4 ++ Drop ∷ [] → c5 ≡ c0 ++ command_code p (foreach i of block) (length c0)
foreach_closed p i of block start c0 c1 c2 c3 c4 c5 h1 h2 hs h3 h4 h5 =
    let a = length c0 in
    let l = expr_end of a + 1 in
    let x = block_end block (l + 1) + 1 in
    let O = expr_code of a in
    let B = block_code p block (l + 1) in
    let s : start ≡ l = omega (arith, hs, placed c0 c1 of h1) in
    let at2 : length c2 ≡ l + 1 = omega (arith, ap length h2, length-append c1 (Walk ∷ Next i 0 ∷ []), placed c0 c1 of h1) in
    let h3' : c3 ≡ c2 ++ B = h3 ∙ ap (λ n. c2 ++ block_code p block n) at2 in
    let at3 : length c3 + 1 ≡ x = omega (arith, ap length h3', length-append c2 B, at2, block_length p block (l + 1)) in
    let F = B ++ Back l ∷ [] in
    let X = O ++ Walk ∷ [] in
    let hole : l ≡ length (c0 ++ X) = omega (arith, length-append c0 X, length-append O (Walk ∷ []), expr_length of a) in
    let all : c3 ++ Back l ∷ [] ≡ (((c0 ++ O) ++ Walk ∷ Next i 0 ∷ []) ++ B) ++ Back l ∷ [] =
    ap (λ m. m ++ Back l ∷ []) (h3' ∙ ap (λ m. m ++ B) (h2 ∙ ap (λ m. m ++ Walk ∷ Next i 0 ∷ []) h1)) in
    let flat : (((c0 ++ O) ++ Walk ∷ Next i 0 ∷ []) ++ B) ++ Back l ∷ [] ≡ c0 ++ ((X ++ Next i 0 ∷ F) ++ []) = simp (append_assoc, append-nil) refl in
    let end : (((c0 ++ X) ++ Next i x ∷ []) ++ (F ++ [])) ++ Drop ∷ [] ≡ c0 ++ command_code p (foreach i of block) a = simp (append_assoc, append-nil) refl in
    h5
    ∙ ap (λ m. m ++ Drop ∷ []) (h4
    ∙ ap (λ n. slice_set (c3 ++ Back n ∷ []) n (Next i (length c3 + 1))) s
    ∙ ap (λ n. slice_set (c3 ++ Back l ∷ []) l (Next i n)) at3
    ∙ ap (λ m. slice_set m l (Next i x)) (all ∙ flat)
    ∙ written c0 X F [] (Next i 0) (Next i x) l hole)
    ∙ end

-- ---- `if`

arm_placed : (p : Role) (cond : Expr) (block : Block) (c c1 : List Instr) → c1 ≡ c ++ arm_front p cond block (length c) → length c1 ≡ block_end block (expr_end cond (length c) + 1)
arm_placed p cond block c c1 h =
    let a = length c in
    let b = expr_end cond a + 1 in
    let back = Unless (block_end block b + 1) ∷ block_code p block b in
    omega (arith, ap length h, length-append c (arm_front p cond block a), length-append (expr_code cond a) back, expr_length cond a, block_length p block b)

pub arms_go : (p : Role) (items : List Arm) (i : ℕ) (x : Arm) (c c1 c2 R : List Instr) → i < length items → x ≡ get_or items i x → c1 ≡ c ++ arm_front p (expr_of x.cond) (block_in x.block.items) (length c) → c2 ≡ c1 ++ Jump 0 ∷ [] →
    c ++ arms_code p (arms_in (drop i items)) (length c) 0 ≡ R → c2 ++ arms_code p (arms_in (drop (i + 1) items)) (length c2) 0 ≡ R
arms_go p items i x c c1 c2 R lt is h1 h2 inv =
    let a = length c in
    let cond = expr_of x.cond in
    let block = block_in x.block.items in
    let n = block_end block (expr_end cond a + 1) + 1 in
    let at : length c2 ≡ n = omega (arith, ap length h2, length-append c1 (Jump 0 ∷ []), arm_placed p cond block c c1 h1) in
    let A = arms_code p (arms_in (drop (i + 1) items)) n 0 in
    let flat : ((c ++ arm_front p cond block a) ++ Jump 0 ∷ []) ++ A ≡ c ++ arms_code p (arm cond block (arms_in (drop (i + 1) items))) a 0 = simp append_assoc refl in
    ap (λ m. c2 ++ arms_code p (arms_in (drop (i + 1) items)) m 0) at
    ∙ ap (λ l. l ++ A) (h2 ∙ ap (λ l. l ++ Jump 0 ∷ []) h1)
    ∙ flat
    ∙ sym (ap (λ xs. c ++ arms_code p (arms_in xs) a 0) (drop_item items i x lt is))
    ∙ inv

pub arms_go_holes : (p : Role) (items : List Arm) (i : ℕ) (x : Arm) (c c1 c2 : List Instr) (h h' R : List ℕ) → i < length items → x ≡ get_or items i x → c1 ≡ c ++ arm_front p (expr_of x.cond) (block_in x.block.items) (length c) → c2 ≡ c1 ++ Jump 0 ∷ [] →
    h' ≡ h ++ length c1 ∷ [] → h ++ arms_holes (arms_in (drop i items)) (length c) ≡ R → h' ++ arms_holes (arms_in (drop (i + 1) items)) (length c2) ≡ R
arms_go_holes p items i x c c1 c2 h h' R lt is h1 h2 e inv =
    let a = length c in
    let cond = expr_of x.cond in
    let block = block_in x.block.items in
    let m = block_end block (expr_end cond a + 1) in
    let at : length c2 ≡ m + 1 = omega (arith, ap length h2, length-append c1 (Jump 0 ∷ []), arm_placed p cond block c c1 h1) in
    let H = arms_holes (arms_in (drop (i + 1) items)) in
    ap (λ n. h' ++ H n) at
    ∙ ap (λ l. l ++ H (m + 1)) (e ∙ ap (λ n. h ++ n ∷ []) (arm_placed p cond block c c1 h1))
    ∙ append_assoc h (m ∷ []) (H (m + 1))
    ∙ sym (ap (λ xs. h ++ arms_holes (arms_in xs) a) (drop_item items i x lt is))
    ∙ inv

pub if_closed : (p : Role) (arms : Arms) (other : Block) (holes : List ℕ) (c0 c1 c2 c3 : List Instr) → c1 ≡ c0 ++ arms_code p arms (length c0) 0 → holes ≡ arms_holes arms (length c0) → c2 ≡ c1 ++ block_code p other (length c1) →
    c3 ≡ filled (Jump (length c2)) holes c2 → c3 ≡ c0 ++ command_code p (if_arms arms other) (length c0)
if_closed p arms other holes c0 c1 c2 c3 h1 hh h2 h3 =
    let a = length c0 in
    let b = arms_end arms a in
    let x = block_end other b in
    let A = arms_code p arms a in
    let O = block_code p other b in
    let at1 : length c1 ≡ b = ap length h1 ∙ length-append c0 (A 0) ∙ arms_length p arms a 0 in
    let h2' : c2 ≡ c1 ++ O = h2 ∙ ap (λ n. c1 ++ block_code p other n) at1 in
    let at2 : length c2 ≡ x = omega (arith, ap length h2', length-append c1 O, at1, block_length p other b) in
    h3
    ∙ ap (λ n. filled (Jump n) holes c2) at2
    ∙ ap (λ hs. filled (Jump x) hs c2) hh
    ∙ ap (λ l. filled (Jump x) (arms_holes arms a) l) (h2' ∙ ap (λ l. l ++ O) h1 ∙ append_assoc c0 (A 0) O)
    ∙ arms_filled p x a arms c0 O refl
