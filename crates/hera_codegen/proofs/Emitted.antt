-- One phrase more of several in a row.
use Rattle.std.proofs.Common.{◌≡◌, ◌<◌, ◌≤◌, ℕ, zero, suc, true, false, ◌+◌, ◌-◌, List, [], ◌∷◌, ◌++◌, length, drop, get_or, refl, sym, ap, ◌∙◌, arith, add-one, append_assoc, append-nil, length-append, drop-cons}
use Rattle.std.specs.Prelude.{slice_set}
use Rattle.hera_meaning.specs.declared.trees.Core.{Core}
use Rattle.hera_meaning.specs.declared.trees.Link.{Link}
use Rattle.hera_meaning.specs.declared.trees.Hypo.{Hypo}
use Rattle.hera_meaning.specs.Trees.{Expr, Exprs, no_more, then_expr, Links, chain, and_all, or_any, when, select, map_each}
use Rattle.hera_meaning.specs.Plain.{expr_of, exprs_in, links_in, hypos_in}
use Rattle.hera_meaning.specs.Addresses.{expr_end, every_last, some_end, hypos_end, hypos_count}
use Rattle.hera_code.specs.declared.instrs.Instr.{Instr}
use Rattle.hera_code.specs.declared.instrs.Instr.TheVariants.{Prim, Walk, Next, Keep, Gather, Back, Yield, Enter, Leave, Jump, Unless}
use Rattle.hera_code.specs.Scheme.{push_bool, leaves, expr_code, exprs_code, every_code, some_code, links_code, hypos_code}
use Rattle.hera_codegen.specs.Holes.{filled, every_front, every_holes, some_holes}
use Rattle.hera_codegen.proofs.Places.{expr_length, some_length, hypos_length}
use Rattle.hera_codegen.proofs.Filled.{written, every_filled, some_filled}

-- the items from a place on
pub drop_item : {A : Type 0} → (xs : List A) (i : ℕ) (x : A) → i < length xs → x ≡ get_or xs i x → drop i xs ≡ x ∷ drop (i + 1) xs
drop_item xs i x lt is = rw add-one (drop-cons xs i x lt ∙ ap (λ y. y ∷ drop (suc i) xs) (sym is))

pub drop_none : {A : Type 0} → (xs : List A) (i : ℕ) → length xs ≤ i → drop i xs ≡ []
drop_none [] zero h = refl
drop_none [] (suc i) h = refl
drop_none (x ∷ xs) zero h = absurd (omega arith)
drop_none (x ∷ xs) (suc i) h = drop_none xs i (omega arith)

pub leaves_one : (c c' R : List Instr) (n i : ℕ) → i < n → c' ≡ c ++ Leave ∷ [] → c ++ leaves (n - i) ≡ R → c' ++ leaves (n - (i + 1)) ≡ R
leaves_one c c' R n i lt h inv =
    let e : n - i ≡ suc (n - (i + 1)) = omega arith in
    ap (λ l. l ++ leaves (n - (i + 1))) h ∙ append_assoc c (Leave ∷ []) (leaves (n - (i + 1))) ∙ sym (ap (λ m. c ++ leaves m) e) ∙ inv

get_or_any : {A : Type 0} → (xs : List A) (i : ℕ) (d e : A) → i < length xs → get_or xs i d ≡ get_or xs i e
get_or_any [] i d e h = absurd (omega arith)
get_or_any (x ∷ xs) zero d e h = refl
get_or_any (x ∷ xs) (suc i) d e h = get_or_any xs i d e (omega arith)

-- the address behind an expression that was put
pub placed : (c c' : List Instr) (e : Expr) → c' ≡ c ++ expr_code e (length c) → length c' ≡ expr_end e (length c)
placed c c' e h = ap length h ∙ length-append c (expr_code e (length c)) ∙ expr_length e (length c)

pub exprs_one : (c c' : List Instr) (e : Expr) (es : Exprs) → c' ≡ c ++ expr_code e (length c) → c' ++ exprs_code es (length c') ≡ c ++ exprs_code (then_expr e es) (length c)
exprs_one c c' e es h =
    ap (λ n. c' ++ exprs_code es n) (placed c c' e h)
    ∙ ap (λ l. l ++ exprs_code es (expr_end e (length c))) h
    ∙ append_assoc c (expr_code e (length c)) (exprs_code es (expr_end e (length c)))

pub exprs_go : (items : List Core) (i : ℕ) (x : Core) (c c' R : List Instr) → i < length items → x ≡ get_or items i x → c' ≡ c ++ expr_code (expr_of x) (length c) →
    c ++ exprs_code (exprs_in (drop i items)) (length c) ≡ R → c' ++ exprs_code (exprs_in (drop (i + 1) items)) (length c') ≡ R
exprs_go items i x c c' R lt is h inv =
    exprs_one c c' (expr_of x) (exprs_in (drop (i + 1) items)) h
    ∙ sym (ap (λ xs. c ++ exprs_code (exprs_in xs) (length c)) (drop_item items i x lt is))
    ∙ inv

pub links_go : (items : List Link) (i : ℕ) (x : Link) (c c1 c2 R : List Instr) → i < length items → x ≡ get_or items i x → c1 ≡ c ++ expr_code (expr_of x.arg) (length c) → c2 ≡ c1 ++ Prim x.op x.at ∷ [] →
    c ++ links_code (links_in (drop i items)) (length c) ≡ R → c2 ++ links_code (links_in (drop (i + 1) items)) (length c2) ≡ R
links_go items i x c c1 c2 R lt is h1 h2 inv =
    let a = length c in
    let b = expr_end (expr_of x.arg) a + 1 in
    let L = links_code (links_in (drop (i + 1) items)) in
    let at : length c2 ≡ b = omega (arith, ap length h2, length-append c1 (Prim x.op x.at ∷ []), placed c c1 (expr_of x.arg) h1) in
    ap (λ n. c2 ++ L n) at
    ∙ ap (λ l. l ++ L b) (h2 ∙ ap (λ l. l ++ Prim x.op x.at ∷ []) h1 ∙ append_assoc c (expr_code (expr_of x.arg) a) (Prim x.op x.at ∷ []))
    ∙ append_assoc c (expr_code (expr_of x.arg) a ++ Prim x.op x.at ∷ []) (L b)
    ∙ ap (λ l. c ++ l) (append_assoc (expr_code (expr_of x.arg) a) (Prim x.op x.at ∷ []) (L b))
    ∙ sym (ap (λ xs. c ++ links_code (links_in xs) a) (drop_item items i x lt is))
    ∙ inv

-- ---- `&&`

pub every_more : (items : List Core) (i : ℕ) (x : Core) (c c1 c2 R : List Instr) → i + 1 < length items → x ≡ get_or items i x → c1 ≡ c ++ expr_code (expr_of x) (length c) → c2 ≡ c1 ++ Unless 0 ∷ [] →
    c ++ every_front (exprs_in (drop i items)) (length c) 0 ≡ R → c2 ++ every_front (exprs_in (drop (i + 1) items)) (length c2) 0 ≡ R
every_more items i x c c1 c2 R lt is h1 h2 inv =
    let a = length c in
    let b = expr_end (expr_of x) a + 1 in
    let y = get_or items (i + 1) x in
    let rest = drop (suc (i + 1)) items in
    let two : drop (i + 1) items ≡ y ∷ rest = drop-cons items (i + 1) x lt in
    let one : drop i items ≡ x ∷ y ∷ rest = drop_item items i x (omega arith) is ∙ ap (λ xs. x ∷ xs) two in
    let F = every_front (exprs_in (y ∷ rest)) b 0 in
    let at : length c2 ≡ b = omega (arith, ap length h2, length-append c1 (Unless 0 ∷ []), placed c c1 (expr_of x) h1) in
    ap (λ xs. c2 ++ every_front (exprs_in xs) (length c2) 0) two
    ∙ ap (λ n. c2 ++ every_front (exprs_in (y ∷ rest)) n 0) at
    ∙ ap (λ l. l ++ F) (h2 ∙ ap (λ l. l ++ Unless 0 ∷ []) h1 ∙ append_assoc c (expr_code (expr_of x) a) (Unless 0 ∷ []))
    ∙ append_assoc c (expr_code (expr_of x) a ++ Unless 0 ∷ []) F
    ∙ ap (λ l. c ++ l) (append_assoc (expr_code (expr_of x) a) (Unless 0 ∷ []) F)
    ∙ sym (ap (λ xs. c ++ every_front (exprs_in xs) a 0) one)
    ∙ inv

pub every_more_holes : (items : List Core) (i : ℕ) (x : Core) (c c1 c2 : List Instr) (h h' R : List ℕ) → i + 1 < length items → x ≡ get_or items i x → c1 ≡ c ++ expr_code (expr_of x) (length c) → c2 ≡ c1 ++ Unless 0 ∷ [] →
    h' ≡ h ++ length c1 ∷ [] → h ++ every_holes (exprs_in (drop i items)) (length c) ≡ R → h' ++ every_holes (exprs_in (drop (i + 1) items)) (length c2) ≡ R
every_more_holes items i x c c1 c2 h h' R lt is h1 h2 e inv =
    let a = length c in
    let m = expr_end (expr_of x) a in
    let y = get_or items (i + 1) x in
    let rest = drop (suc (i + 1)) items in
    let two : drop (i + 1) items ≡ y ∷ rest = drop-cons items (i + 1) x lt in
    let one : drop i items ≡ x ∷ y ∷ rest = drop_item items i x (omega arith) is ∙ ap (λ xs. x ∷ xs) two in
    let H = every_holes (exprs_in (y ∷ rest)) in
    let at : length c2 ≡ m + 1 = omega (arith, ap length h2, length-append c1 (Unless 0 ∷ []), placed c c1 (expr_of x) h1) in
    ap (λ xs. h' ++ every_holes (exprs_in xs) (length c2)) two
    ∙ ap (λ n. h' ++ H n) at
    ∙ ap (λ l. l ++ H (m + 1)) (e ∙ ap (λ n. h ++ n ∷ []) (placed c c1 (expr_of x) h1))
    ∙ append_assoc h (m ∷ []) (H (m + 1))
    ∙ sym (ap (λ xs. h ++ every_holes (exprs_in xs) a) one)
    ∙ inv

pub every_end : (items : List Core) (i : ℕ) (x : Core) (c c1 R : List Instr) → i < length items → length items ≤ i + 1 → x ≡ get_or items i x → c1 ≡ c ++ expr_code (expr_of x) (length c) →
    c ++ every_front (exprs_in (drop i items)) (length c) 0 ≡ R → c1 ++ every_front (exprs_in (drop (i + 1) items)) (length c1) 0 ≡ R
every_end items i x c c1 R lt past is h1 inv =
    let none : drop (i + 1) items ≡ [] = drop_none items (i + 1) past in
    let one : drop i items ≡ x ∷ [] = drop_item items i x lt is ∙ ap (λ xs. x ∷ xs) none in
    ap (λ xs. c1 ++ every_front (exprs_in xs) (length c1) 0) none
    ∙ append-nil c1 ∙ h1
    ∙ sym (ap (λ xs. c ++ every_front (exprs_in xs) (length c) 0) one)
    ∙ inv

pub every_end_holes : (items : List Core) (i : ℕ) (x : Core) (a b : ℕ) (h R : List ℕ) → i < length items → length items ≤ i + 1 → x ≡ get_or items i x →
    h ++ every_holes (exprs_in (drop i items)) a ≡ R → h ++ every_holes (exprs_in (drop (i + 1) items)) b ≡ R
every_end_holes items i x a b h R lt past is inv =
    let none : drop (i + 1) items ≡ [] = drop_none items (i + 1) past in
    let one : drop i items ≡ x ∷ [] = drop_item items i x lt is ∙ ap (λ xs. x ∷ xs) none in
    ap (λ xs. h ++ every_holes (exprs_in xs) b) none ∙ sym (ap (λ xs. h ++ every_holes (exprs_in xs) a) one) ∙ inv

every_whole : (e : Expr) (es : Exprs) (a f : ℕ) → every_code (then_expr e es) a f ≡ every_front (then_expr e es) a f ++ Jump (f + 1) ∷ push_bool false ∷ []
every_whole e no_more a f = refl
every_whole e (then_expr d es) a f =
    ap (λ l. expr_code e a ++ Unless f ∷ l) (every_whole d es (expr_end e a + 1) f)
    ∙ sym (append_assoc (expr_code e a) (Unless f ∷ every_front (then_expr d es) (expr_end e a + 1) f) (Jump (f + 1) ∷ push_bool false ∷ []))

every_front_length : (e : Expr) (es : Exprs) (a f : ℕ) → a + length (every_front (then_expr e es) a f) + 1 ≡ every_last (then_expr e es) a
every_front_length e no_more a f = omega (arith, expr_length e a)
every_front_length e (then_expr d es) a f =
    omega (arith, expr_length e a, every_front_length d es (expr_end e a + 1) f, length-append (expr_code e a) (Unless f ∷ every_front (then_expr d es) (expr_end e a + 1) f))

pub every_closed : (items : List Core) (c0 c1 c2 : List Instr) (holes : List ℕ) → 0 < length items → c1 ≡ c0 ++ every_front (exprs_in items) (length c0) 0 → holes ≡ every_holes (exprs_in items) (length c0) →
    c2 ≡ filled (Unless (length c1 + 1)) holes (c1 ++ Jump (length c1 + 2) ∷ push_bool false ∷ []) → c2 ≡ c0 ++ expr_code (and_all (exprs_in items)) (length c0)
every_closed [] c0 c1 c2 holes some h1 hh h2 = absurd (omega arith)
every_closed (x ∷ xs) c0 c1 c2 holes some h1 hh h2 =
    let es = exprs_in (x ∷ xs) in
    let a = length c0 in
    let f = every_last es a in
    let at : length c1 + 1 ≡ f = omega (arith, ap length h1, length-append c0 (every_front es a 0), every_front_length (expr_of x) (exprs_in xs) a 0) in
    let to : length c1 + 2 ≡ f + 1 = omega (arith, at) in
    let back : List Instr = Jump (f + 1) ∷ push_bool false ∷ [] in
    h2
    ∙ ap (λ n. filled (Unless n) holes (c1 ++ Jump (length c1 + 2) ∷ push_bool false ∷ [])) at
    ∙ ap (λ n. filled (Unless f) holes (c1 ++ Jump n ∷ push_bool false ∷ [])) to
    ∙ ap (λ l. filled (Unless f) holes (l ++ back)) h1
    ∙ ap (λ l. filled (Unless f) holes l) (append_assoc c0 (every_front es a 0) back)
    ∙ ap (λ hs. filled (Unless f) hs (c0 ++ (every_front es a 0 ++ back))) hh
    ∙ every_filled f a es c0 back refl
    ∙ ap (λ l. c0 ++ l) (sym (every_whole (expr_of x) (exprs_in xs) a f))

-- ---- `||`

pub some_more : (items : List Core) (i : ℕ) (x : Core) (c c1 c2 c3 R : List Instr) → i + 1 < length items → x ≡ get_or items i x → c1 ≡ c ++ expr_code (expr_of x) (length c) →
    c2 ≡ c1 ++ Unless (length c1 + 3) ∷ push_bool true ∷ [] → c3 ≡ c2 ++ Jump 0 ∷ [] →
    c ++ some_code (exprs_in (drop i items)) (length c) 0 ≡ R → c3 ++ some_code (exprs_in (drop (i + 1) items)) (length c3) 0 ≡ R
some_more items i x c c1 c2 c3 R lt is h1 h2 h3 inv =
    let a = length c in
    let n = expr_end (expr_of x) a + 1 + 1 + 1 in
    let y = get_or items (i + 1) x in
    let rest = drop (suc (i + 1)) items in
    let two : drop (i + 1) items ≡ y ∷ rest = drop-cons items (i + 1) x lt in
    let one : drop i items ≡ x ∷ y ∷ rest = drop_item items i x (omega arith) is ∙ ap (λ xs. x ∷ xs) two in
    let S = some_code (exprs_in (y ∷ rest)) n 0 in
    let E = expr_code (expr_of x) a in
    let to : length c1 + 3 ≡ n = omega (arith, placed c c1 (expr_of x) h1) in
    let at : length c3 ≡ n = omega (arith, ap length h3, length-append c2 (Jump 0 ∷ []), ap length h2, length-append c1 (Unless (length c1 + 3) ∷ push_bool true ∷ []), placed c c1 (expr_of x) h1) in
    let all : c3 ≡ ((c ++ E) ++ Unless n ∷ push_bool true ∷ []) ++ Jump 0 ∷ [] =
    h3 ∙ ap (λ l. l ++ Jump 0 ∷ []) (h2 ∙ ap (λ m. c1 ++ Unless m ∷ push_bool true ∷ []) to ∙ ap (λ l. l ++ Unless n ∷ push_bool true ∷ []) h1) in
    let flat : (((c ++ E) ++ Unless n ∷ push_bool true ∷ []) ++ Jump 0 ∷ []) ++ S ≡ c ++ (E ++ Unless n ∷ push_bool true ∷ Jump 0 ∷ S) = simp append_assoc refl in
    ap (λ xs. c3 ++ some_code (exprs_in xs) (length c3) 0) two
    ∙ ap (λ m. c3 ++ some_code (exprs_in (y ∷ rest)) m 0) at
    ∙ ap (λ l. l ++ S) all
    ∙ flat
    ∙ sym (ap (λ xs. c ++ some_code (exprs_in xs) a 0) one)
    ∙ inv

pub some_more_holes : (items : List Core) (i : ℕ) (x : Core) (c c1 c2 c3 : List Instr) (h h' R : List ℕ) → i + 1 < length items → x ≡ get_or items i x → c1 ≡ c ++ expr_code (expr_of x) (length c) →
    c2 ≡ c1 ++ Unless (length c1 + 3) ∷ push_bool true ∷ [] → c3 ≡ c2 ++ Jump 0 ∷ [] → h' ≡ h ++ length c2 ∷ [] →
    h ++ some_holes (exprs_in (drop i items)) (length c) ≡ R → h' ++ some_holes (exprs_in (drop (i + 1) items)) (length c3) ≡ R
some_more_holes items i x c c1 c2 c3 h h' R lt is h1 h2 h3 e inv =
    let a = length c in
    let m = expr_end (expr_of x) a + 1 + 1 in
    let y = get_or items (i + 1) x in
    let rest = drop (suc (i + 1)) items in
    let two : drop (i + 1) items ≡ y ∷ rest = drop-cons items (i + 1) x lt in
    let one : drop i items ≡ x ∷ y ∷ rest = drop_item items i x (omega arith) is ∙ ap (λ xs. x ∷ xs) two in
    let H = some_holes (exprs_in (y ∷ rest)) in
    let hole : length c2 ≡ m = omega (arith, ap length h2, length-append c1 (Unless (length c1 + 3) ∷ push_bool true ∷ []), placed c c1 (expr_of x) h1) in
    let at : length c3 ≡ m + 1 = omega (arith, ap length h3, length-append c2 (Jump 0 ∷ []), hole) in
    ap (λ xs. h' ++ some_holes (exprs_in xs) (length c3)) two
    ∙ ap (λ n. h' ++ H n) at
    ∙ ap (λ l. l ++ H (m + 1)) (e ∙ ap (λ n. h ++ n ∷ []) hole)
    ∙ append_assoc h (m ∷ []) (H (m + 1))
    ∙ sym (ap (λ xs. h ++ some_holes (exprs_in xs) a) one)
    ∙ inv

pub some_last : (items : List Core) (i : ℕ) (x : Core) (c c1 R : List Instr) → i < length items → length items ≤ i + 1 → x ≡ get_or items i x → c1 ≡ c ++ expr_code (expr_of x) (length c) →
    c ++ some_code (exprs_in (drop i items)) (length c) 0 ≡ R → c1 ++ some_code (exprs_in (drop (i + 1) items)) (length c1) 0 ≡ R
some_last items i x c c1 R lt past is h1 inv =
    let none : drop (i + 1) items ≡ [] = drop_none items (i + 1) past in
    let one : drop i items ≡ x ∷ [] = drop_item items i x lt is ∙ ap (λ xs. x ∷ xs) none in
    ap (λ xs. c1 ++ some_code (exprs_in xs) (length c1) 0) none
    ∙ append-nil c1 ∙ h1
    ∙ sym (ap (λ xs. c ++ some_code (exprs_in xs) (length c) 0) one)
    ∙ inv

pub some_last_holes : (items : List Core) (i : ℕ) (x : Core) (a b : ℕ) (h R : List ℕ) → i < length items → length items ≤ i + 1 → x ≡ get_or items i x →
    h ++ some_holes (exprs_in (drop i items)) a ≡ R → h ++ some_holes (exprs_in (drop (i + 1) items)) b ≡ R
some_last_holes items i x a b h R lt past is inv =
    let none : drop (i + 1) items ≡ [] = drop_none items (i + 1) past in
    let one : drop i items ≡ x ∷ [] = drop_item items i x lt is ∙ ap (λ xs. x ∷ xs) none in
    ap (λ xs. h ++ some_holes (exprs_in xs) b) none ∙ sym (ap (λ xs. h ++ some_holes (exprs_in xs) a) one) ∙ inv

pub some_closed : (es : Exprs) (c0 c1 c2 : List Instr) (holes : List ℕ) → c1 ≡ c0 ++ some_code es (length c0) 0 → holes ≡ some_holes es (length c0) →
    c2 ≡ filled (Jump (length c1)) holes c1 → c2 ≡ c0 ++ expr_code (or_any es) (length c0)
some_closed es c0 c1 c2 holes h1 hh h2 =
    let a = length c0 in
    let x = some_end es a in
    let at : length c1 ≡ x = ap length h1 ∙ length-append c0 (some_code es a 0) ∙ some_length es a 0 in
    h2
    ∙ ap (λ n. filled (Jump n) holes c1) at
    ∙ ap (λ hs. filled (Jump x) hs c1) hh
    ∙ ap (λ l. filled (Jump x) (some_holes es a) l) (h1 ∙ ap (λ l. c0 ++ l) (sym (append-nil (some_code es a 0))))
    ∙ some_filled x a es c0 [] refl
    ∙ ap (λ l. c0 ++ l) (append-nil (some_code es a x))

-- ---- `when`

pub hypos_one : (items : List Hypo) (i : ℕ) (x : Hypo) (c0 c c1 c2 : List Instr) → i < length items → x ≡ get_or items i x → c ≡ c0 ++ hypos_code (hypos_in (drop (i + 1) items)) (length c0) →
    c1 ≡ c ++ expr_code (expr_of x.delta) (length c) → c2 ≡ c1 ++ Enter x.at ∷ [] → c2 ≡ c0 ++ hypos_code (hypos_in (drop i items)) (length c0)
hypos_one items i x c0 c c1 c2 lt is h h1 h2 =
    let a = length c0 in
    let rest = hypos_in (drop (i + 1) items) in
    let H = hypos_code rest a in
    let at : length c ≡ hypos_end rest a = ap length h ∙ length-append c0 H ∙ hypos_length rest a in
    let E = expr_code (expr_of x.delta) in
    h2
    ∙ ap (λ l. l ++ Enter x.at ∷ []) (h1 ∙ ap (λ n. c ++ E n) at ∙ ap (λ l. l ++ E (hypos_end rest a)) h)
    ∙ append_assoc (c0 ++ H) (E (hypos_end rest a)) (Enter x.at ∷ [])
    ∙ append_assoc c0 H (E (hypos_end rest a) ++ Enter x.at ∷ [])
    ∙ sym (ap (λ xs. c0 ++ hypos_code (hypos_in xs) a) (drop_item items i x lt is))

hypos_many : (items : List Hypo) → hypos_count (hypos_in items) ≡ length items
hypos_many [] = refl
hypos_many (h ∷ hs) = omega (arith, hypos_many hs)

pub when_closed : (items : List Hypo) (body : Expr) (c0 c1 c2 c3 : List Instr) → c1 ≡ c0 ++ hypos_code (hypos_in items) (length c0) → c2 ≡ c1 ++ expr_code body (length c1) → c3 ≡ c2 ++ leaves (length items) →
    c3 ≡ c0 ++ expr_code (when body (hypos_in items)) (length c0)
when_closed items body c0 c1 c2 c3 h1 h2 h3 =
    let a = length c0 in
    let hs = hypos_in items in
    let H = hypos_code hs a in
    let at : length c1 ≡ hypos_end hs a = ap length h1 ∙ length-append c0 H ∙ hypos_length hs a in
    let B = expr_code body (hypos_end hs a) in
    h3
    ∙ ap (λ n. c2 ++ leaves n) (sym (hypos_many items))
    ∙ ap (λ l. l ++ leaves (hypos_count hs)) (h2 ∙ ap (λ n. c1 ++ expr_code body n) at ∙ ap (λ l. l ++ B) h1)
    ∙ append_assoc (c0 ++ H) B (leaves (hypos_count hs))
    ∙ append_assoc c0 H (B ++ leaves (hypos_count hs))

-- ---- chains and walks

pub chain_closed : (first : Expr) (links : Links) (c0 c1 c2 : List Instr) → c1 ≡ c0 ++ expr_code first (length c0) → c2 ≡ c1 ++ links_code links (length c1) → c2 ≡ c0 ++ expr_code (chain first links) (length c0)
chain_closed first links c0 c1 c2 h1 h2 =
    let a = length c0 in
    let L = links_code links (expr_end first a) in
    h2 ∙ ap (λ n. c1 ++ links_code links n) (placed c0 c1 first h1) ∙ ap (λ l. l ++ L) h1 ∙ append_assoc c0 (expr_code first a) L

-- a walk that gathers by this instruction
abbrev walk_code : (i : ℕ) (of body : Expr) → Instr → ℕ → List Instr
walk_code i of body g a =
    let l = expr_end of a + 1 in let x = expr_end body (l + 1) + 1 + 1 in
    expr_code of a ++ Walk ∷ Next i x ∷ (expr_code body (l + 1) ++ g ∷ Back l ∷ Yield ∷ [])

walk_closed : (i : ℕ) (of body : Expr) (g : Instr) (c0 c1 c2 c3 c4 : List Instr) (start : ℕ) → c1 ≡ c0 ++ expr_code of (length c0) → c2 ≡ c1 ++ Walk ∷ Next i 0 ∷ [] → start ≡ length c1 + 1 →
    c3 ≡ c2 ++ expr_code body (length c2) → c4 ≡ slice_set ((c3 ++ g ∷ []) ++ Back start ∷ []) start (Next i (length c3 + 1 + 1)) ++ Yield ∷ [] →
    c4 ≡ c0 ++ walk_code i of body g (length c0)
walk_closed i of body g c0 c1 c2 c3 c4 start h1 h2 hs h3 h4 =
    let a = length c0 in
    let l = expr_end of a + 1 in
    let x = expr_end body (l + 1) + 1 + 1 in
    let O = expr_code of a in
    let B = expr_code body (l + 1) in
    let s : start ≡ l = omega (arith, hs, placed c0 c1 of h1) in
    let at2 : length c2 ≡ l + 1 = omega (arith, ap length h2, length-append c1 (Walk ∷ Next i 0 ∷ []), placed c0 c1 of h1) in
    let h3' : c3 ≡ c2 ++ B = h3 ∙ ap (λ n. c2 ++ expr_code body n) at2 in
    let at3 : length c3 + 1 + 1 ≡ x = omega (arith, ap length h3', length-append c2 B, at2, expr_length body (l + 1)) in
    let F = B ++ g ∷ Back l ∷ [] in
    let X = O ++ Walk ∷ [] in
    let hole : l ≡ length (c0 ++ X) = omega (arith, length-append c0 X, length-append O (Walk ∷ []), expr_length of a) in
    let all : (c3 ++ g ∷ []) ++ Back l ∷ [] ≡ ((((c0 ++ O) ++ Walk ∷ Next i 0 ∷ []) ++ B) ++ g ∷ []) ++ Back l ∷ [] =
    ap (λ m. (m ++ g ∷ []) ++ Back l ∷ []) (h3' ∙ ap (λ m. m ++ B) (h2 ∙ ap (λ m. m ++ Walk ∷ Next i 0 ∷ []) h1)) in
    let flat : ((((c0 ++ O) ++ Walk ∷ Next i 0 ∷ []) ++ B) ++ g ∷ []) ++ Back l ∷ [] ≡ c0 ++ ((X ++ Next i 0 ∷ F) ++ []) = simp (append_assoc, append-nil) refl in
    let end : (((c0 ++ X) ++ Next i x ∷ []) ++ (F ++ [])) ++ Yield ∷ [] ≡ c0 ++ walk_code i of body g a = simp (append_assoc, append-nil) refl in
    h4
    ∙ ap (λ m. m ++ Yield ∷ []) (ap (λ n. slice_set ((c3 ++ g ∷ []) ++ Back n ∷ []) n (Next i (length c3 + 1 + 1))) s
    ∙ ap (λ n. slice_set ((c3 ++ g ∷ []) ++ Back l ∷ []) l (Next i n)) at3
    ∙ ap (λ m. slice_set m l (Next i x)) (all ∙ flat)
    ∙ written c0 X F [] (Next i 0) (Next i x) l hole)
    ∙ end

pub select_closed : (i : ℕ) (of body : Expr) (c0 c1 c2 c3 c4 : List Instr) (start : ℕ) → c1 ≡ c0 ++ expr_code of (length c0) → c2 ≡ c1 ++ Walk ∷ Next i 0 ∷ [] → start ≡ length c1 + 1 →
    c3 ≡ c2 ++ expr_code body (length c2) → c4 ≡ slice_set ((c3 ++ Keep ∷ []) ++ Back start ∷ []) start (Next i (length c3 + 1 + 1)) ++ Yield ∷ [] →
    c4 ≡ c0 ++ expr_code (select i of body) (length c0)
select_closed i of body c0 c1 c2 c3 c4 start h1 h2 hs h3 h4 = walk_closed i of body Keep c0 c1 c2 c3 c4 start h1 h2 hs h3 h4

pub map_closed : (i : ℕ) (of body : Expr) (c0 c1 c2 c3 c4 : List Instr) (start : ℕ) → c1 ≡ c0 ++ expr_code of (length c0) → c2 ≡ c1 ++ Walk ∷ Next i 0 ∷ [] → start ≡ length c1 + 1 →
    c3 ≡ c2 ++ expr_code body (length c2) → c4 ≡ slice_set ((c3 ++ Gather ∷ []) ++ Back start ∷ []) start (Next i (length c3 + 1 + 1)) ++ Yield ∷ [] →
    c4 ≡ c0 ++ expr_code (map_each i of body) (length c0)
map_closed i of body c0 c1 c2 c3 c4 start h1 h2 hs h3 h4 = walk_closed i of body Gather c0 c1 c2 c3 c4 start h1 h2 hs h3 h4

-- ---- the ends of loops

pub operands_closed : (items all : List Core) (i : ℕ) (g f : Instr) (c0 c1 c2 : List Instr) → length items ≤ i → c1 ++ exprs_code (exprs_in (drop i items)) (length c1) ≡ c0 ++ exprs_code (exprs_in items) (length c0) →
    items ≡ all → g ≡ f → c2 ≡ c1 ++ g ∷ [] → c2 ≡ c0 ++ (exprs_code (exprs_in all) (length c0) ++ f ∷ [])
operands_closed items all i g f c0 c1 c2 past inv items_are g_is h =
    let E = exprs_code (exprs_in items) (length c0) in
    let whole : c1 ≡ c0 ++ E = sym (append-nil c1) ∙ sym (ap (λ xs. c1 ++ exprs_code (exprs_in xs) (length c1)) (drop_none items i past)) ∙ inv in
    h ∙ ap (λ l. l ++ g ∷ []) whole ∙ append_assoc c0 E (g ∷ [])
    ∙ ap (λ x. c0 ++ (E ++ x ∷ [])) g_is
    ∙ ap (λ xs. c0 ++ (exprs_code (exprs_in xs) (length c0) ++ f ∷ [])) items_are

pub hypos_go : (items : List Hypo) (i : ℕ) (x y : Hypo) (c0 c c1 c2 : List Instr) → 0 < i → i ≤ length items → x ≡ get_or items (i - 1) x → y ≡ get_or items (i - 1) y → c ≡ c0 ++ hypos_code (hypos_in (drop i items)) (length c0) →
    c1 ≡ c ++ expr_code (expr_of x.delta) (length c) → c2 ≡ c1 ++ Enter y.at ∷ [] → c2 ≡ c0 ++ hypos_code (hypos_in (drop (i - 1) items)) (length c0)
hypos_go items i x y c0 c c1 c2 some within x_is y_is h h1 h2 =
    let e : i ≡ i - 1 + 1 = omega arith in
    let lt : i - 1 < length items = omega arith in
    let same : y.at ≡ x.at = ap (λ z. z.at) (y_is ∙ get_or_any items (i - 1) y x lt ∙ sym x_is) in
    hypos_one items (i - 1) x c0 c c1 c2 lt x_is (h ∙ ap (λ k. c0 ++ hypos_code (hypos_in (drop k items)) (length c0)) e) h1 (h2 ∙ ap (λ n. c1 ++ Enter n ∷ []) same)
