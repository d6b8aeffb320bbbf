-- Rows in one buffer after one more, and the set of rows in any order.
use Rattle.std.proofs.Common.{◌≡◌, ℕ, zero, suc, ◌+◌, ◌-◌, ◌≤◌, add-one, List, [], ◌∷◌, ◌++◌, length, take, drop, refl, sym, ap, ◌∙◌, arith, length-append, length-drop, Some}
use Rattle.std.specs.Prelude.{slice_get, Result, Ok, Err, IfOk}
use Rattle.std.specs.List.{All}
use Rattle.std.specs.List.Sorted.{IsPermutation}
use Rattle.std.proofs.lemmas.List.{take-append-le, drop-append-le, map_push, drop_at, take_all}
use Rattle.std.proofs.lemmas.List.Elements.{All-tail, All-head, All-weaker, All-push}
use Rattle.std.proofs.lemmas.List.Sorted.{list_any-IsPermutation, IsPermutation-map}
use Rattle.std.proofs.lemmas.Option.{none-some, same_Some}
use Rattle.hera_csv.specs.declared.row_list.Span.{Span}
use Rattle.hera_csv.specs.Listed.{cut, rows_at, IsWithin}
use Rattle.hera_sets.specs.Rows.{Row, is_same, put, normal}
use Rattle.hera_sets.proofs.Members.{same_rows, ascending_normal, holds-normal, normal-push}

-- ---- one row more

-- a span of the bytes is the same span of more bytes
cut-append : (b c : List ℕ) (s : Span) → IsWithin (length b) s → cut (b ++ c) s ≡ cut b s
cut-append b c s w =
    let starts : s.start ≤ length b = omega (arith, w.ordered, w.inside) in
    let fits : s.end - s.start ≤ length (drop s.start b) = omega (arith, w.ordered, w.inside, length-drop s.start b) in
    ap (take (s.end - s.start)) (drop-append-le s.start b c starts) ∙ take-append-le (s.end - s.start) (drop s.start b) c fits

pub rows_at-append : (b c : List ℕ) (ss : List Span) → All (IsWithin (length b)) ss → rows_at (b ++ c) ss ≡ rows_at b ss
rows_at-append b c [] w = refl
rows_at-append b c (s ∷ ss) w = λ i. cut-append b c s (All-head (IsWithin (length b)) s ss w) i ∷ rows_at-append b c ss (All-tail (IsWithin (length b)) s ss w) i

pub within_more : (b c : List ℕ) (ss : List Span) → All (IsWithin (length b)) ss → All (IsWithin (length (b ++ c))) ss
within_more b c ss w = All-weaker (IsWithin (length b)) (IsWithin (length (b ++ c))) (λ s h. record { ordered = h.ordered; inside = omega (arith, h.inside, length-append b c) }) ss w

-- the span of what was put behind the bytes
cut_behind : (b c : List ℕ) (s : Span) → s.start ≡ length b → s.end ≡ length (b ++ c) → cut (b ++ c) s ≡ c
cut_behind b c s p q =
    let front : drop s.start (b ++ c) ≡ c = ap (λ n. drop n (b ++ c)) p ∙ drop_at b c (length b) refl in
    let long : s.end - s.start ≡ length c = omega (arith, p, q, length-append b c) in
    ap (take (s.end - s.start)) front ∙ ap (λ n. take n c) long ∙ take_all (length c) c (omega arith)

pub rows_at-push : (b c : List ℕ) (ss : List Span) (s : Span) → All (IsWithin (length b)) ss → s.start ≡ length b → s.end ≡ length (b ++ c) → rows_at (b ++ c) (ss ++ s ∷ []) ≡ rows_at b ss ++ c ∷ []
rows_at-push b c ss s w p q = map_push (cut (b ++ c)) ss s ∙ (λ i. rows_at-append b c ss w i ++ cut_behind b c s p q i ∷ [])

pub within_push : (b c : List ℕ) (ss : List Span) (s : Span) → All (IsWithin (length b)) ss → s.start ≡ length b → s.end ≡ length (b ++ c) → All (IsWithin (length (b ++ c))) (ss ++ s ∷ [])
within_push b c ss s w p q = All-push (IsWithin (length (b ++ c))) ss s (within_more b c ss w) (record { ordered = omega (arith, p, q, length-append b c); inside = omega (arith, q) })

-- ---- rows in any order

normal-permutation : (xs ys : List Row) → IsPermutation xs ys → normal ys ≡ normal xs
normal-permutation xs ys h =
    same_rows (normal ys) (normal xs) (ascending_normal ys) (ascending_normal xs) (λ q.
    holds-normal ys q ∙ sym (list_any-IsPermutation (is_same q) xs ys h) ∙ sym (holds-normal xs q))

-- the order of the spans does not matter
pub normal-sorted : (b : List ℕ) (xs ys : List Span) → IsPermutation xs ys → normal (rows_at b ys) ≡ normal (rows_at b xs)
normal-sorted b xs ys h = normal-permutation (rows_at b xs) (rows_at b ys) (IsPermutation-map (cut b) xs ys h)

pub length-rows_at : (b : List ℕ) (ss : List Span) → length (rows_at b ss) ≡ length ss
length-rows_at b [] = refl
length-rows_at b (s ∷ ss) = ap suc (length-rows_at b ss)

pub row_at-there : (b : List ℕ) (ss : List Span) (i : ℕ) (s : Span) → slice_get ss i ≡ Some s → slice_get (rows_at b ss) i ≡ Some (cut b s)
row_at-there b [] i s h = absurd (none-some s h)
row_at-there b (x ∷ ss) zero s h = ap (λ (y : Span). Some (cut b y)) (same_Some x s h)
row_at-there b (x ∷ ss) (suc i) s h = row_at-there b ss i s h

take_on : (rows : List Row) (i : ℕ) (x : Row) → slice_get rows i ≡ Some x → take (i + 1) rows ≡ take i rows ++ x ∷ []
take_on rows i x h = ap (λ (n : ℕ). take n rows) (add-one i) ∙ at rows i h
  where
    at : (rows : List Row) (i : ℕ) → slice_get rows i ≡ Some x → take (suc i) rows ≡ take i rows ++ x ∷ []
    at [] i g = absurd (none-some x g)
    at (y ∷ ys) zero g = ap (λ (z : Row). z ∷ []) (same_Some y x g)
    at (y ∷ ys) (suc i) g = ap (λ (l : List Row). y ∷ l) (at ys i g)

-- one row more is in
pub taken_more : (rows : List Row) (i : ℕ) (x : Row) (set after : List Row) → slice_get rows i ≡ Some x → set ≡ normal (take i rows) → after ≡ put x set → after ≡ normal (take (i + 1) rows)
taken_more rows i x set after h e g = g ∙ ap (put x) e ∙ sym (normal-push (take i rows) x) ∙ ap normal (sym (take_on rows i x h))

-- all are in
pub taken_all : (rows : List Row) (i : ℕ) (set : List Row) → length rows ≤ i → set ≡ normal (take i rows) → set ≡ normal rows
taken_all rows i set n e = e ∙ ap normal (take_all i rows n)

pub same_set : {E : Type 0} (r : Result (List Row) E) (a b : List Row) → normal a ≡ normal b → IfOk r (λ set. set ≡ normal a) → IfOk r (λ set. set ≡ normal b)
same_set (Ok set) a b e h = h ∙ e
same_set (Err x) a b e h = tt
