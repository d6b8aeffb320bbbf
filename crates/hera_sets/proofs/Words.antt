-- Eight bytes compared as one number, in which the first one counts most.
use Rattle.std.proofs.Common.{◌≡◌, ℕ, zero, suc, ◌+◌, ◌*◌, ◌^◌, ◌<◌, ◌≤◌, ◌⊎◌, cond, List, [], ◌∷◌, ◌++◌, length, take, drop, get_or, eqb, refl, sym, ap, ◌∙◌, subst, inl, inr, arith}
use Rattle.std.specs.Ordering.{nat_cmp, ordering_then}
use Rattle.std.specs.declared.cmp.Ordering.{Ordering}
use Rattle.std.specs.declared.cmp.Ordering.TheVariants.{Less, Equal, Greater}
use Rattle.std.specs.Cmp.Lexicographic.{slice_cmp}
use Rattle.std.specs.Int.{from_be_bytes, w64}
use Rattle.std.proofs.Math.Nat.{mul-le-mul_right, pow-succ'}
use Rattle.std.proofs.lemmas.Bool.{cases_order, lt-ltb, le-ltb, eq-eqb, ne_eqb}
use Rattle.std.proofs.lemmas.List.{take-append-drop, length-take-le}

-- ---- which way two numbers stand

less : (x y : ℕ) → x < y → nat_cmp x y ≡ Less
less x y h = ap (λ b. cond b Less (cond (eqb x y) Equal Greater)) (lt-ltb x y h)

level : (x : ℕ) → nat_cmp x x ≡ Equal
level x = ap (λ b. cond b Less (cond (eqb x x) Equal Greater)) (le-ltb x x (omega arith)) ∙ ap (λ b. cond b Equal Greater) (eq-eqb x x refl)

greater : (x y : ℕ) → y < x → nat_cmp x y ≡ Greater
greater x y h = ap (λ b. cond b Less (cond (eqb x y) Equal Greater)) (le-ltb x y (omega (arith, h))) ∙ ap (λ b. cond b Equal Greater) (ne_eqb x y (λ e. omega (arith, h, e)))

-- a digit, and what stands behind it, which is less than one of the digit
carry : (p v x y : ℕ) → v < p → x < y → x * p + v < y * p
carry p v x y h g = let m : (x + 1) * p ≤ y * p = mul-le-mul_right p (omega (arith, g)) in let e : (x + 1) * p ≡ x * p + p = omega arith in omega (arith, h, m, e)

same_digit : (a v w : ℕ) → nat_cmp (a + v) (a + w) ≡ nat_cmp v w
same_digit a v w = by (cases_order v w)
  where
    by : (v ≡ w) ⊎ ((v < w) ⊎ (w < v)) → nat_cmp (a + v) (a + w) ≡ nat_cmp v w
    by (inl e) = ap (λ u. nat_cmp (a + v) (a + u)) (sym e) ∙ level (a + v) ∙ sym (level v) ∙ ap (nat_cmp v) e
    by (inr (inl h)) = less (a + v) (a + w) (omega (arith, h)) ∙ sym (less v w h)
    by (inr (inr h)) = greater (a + v) (a + w) (omega (arith, h)) ∙ sym (greater v w h)

digits : (p v w x y : ℕ) → v < p → w < p → ordering_then (nat_cmp x y) (nat_cmp v w) ≡ nat_cmp (x * p + v) (y * p + w)
digits p v w x y h g = by (cases_order x y)
  where
    by : (x ≡ y) ⊎ ((x < y) ⊎ (y < x)) → ordering_then (nat_cmp x y) (nat_cmp v w) ≡ nat_cmp (x * p + v) (y * p + w)
    by (inl e) = ap (λ z. ordering_then (nat_cmp x z) (nat_cmp v w)) (sym e) ∙ ap (λ o. ordering_then o (nat_cmp v w)) (level x) ∙ sym (same_digit (x * p) v w) ∙ ap (λ z. nat_cmp (x * p + v) (z * p + w)) e
    by (inr (inl l)) = ap (λ o. ordering_then o (nat_cmp v w)) (less x y l) ∙ sym (less (x * p + v) (y * p + w) (let m = carry p v x y h l in omega (arith, m)))
    by (inr (inr l)) = ap (λ o. ordering_then o (nat_cmp v w)) (greater x y l) ∙ sym (greater (x * p + v) (y * p + w) (let m = carry p w y x g l in omega (arith, m)))

-- ---- lists of bytes as numbers

abbrev AreBytes : List ℕ → Type 0
AreBytes [] = Unit {0}
AreBytes (x ∷ xs) = (x < 256) × AreBytes xs

abbrev value : List ℕ → ℕ
value [] = 0
value (x ∷ xs) = x * 256 ^ length xs + value xs

front_bytes : (n : ℕ) (xs : List ℕ) → ((i : ℕ) → get_or xs i 0 < 256) → AreBytes (take n xs)
front_bytes zero xs h = tt
front_bytes (suc n) [] h = tt
front_bytes (suc n) (x ∷ xs) h = (h 0, front_bytes n xs (λ i. h (suc i)))

pub bytes_behind : (n : ℕ) (xs : List ℕ) → ((i : ℕ) → get_or xs i 0 < 256) → (i : ℕ) → get_or (drop n xs) i 0 < 256
bytes_behind zero xs h = h
bytes_behind (suc n) [] h = λ i. omega arith
bytes_behind (suc n) (x ∷ xs) h = bytes_behind n xs (λ i. h (suc i))

value_fits : (xs : List ℕ) → AreBytes xs → value xs < 256 ^ length xs
value_fits [] h = omega arith
value_fits (x ∷ xs) h =
    subst (λ n. value (x ∷ xs) < n) (sym (pow-succ' 256 (length xs))) (carry (256 ^ length xs) (value xs) x 256 (value_fits xs h.1) h.0)

values : (xs ys : List ℕ) → length xs ≡ length ys → AreBytes xs → AreBytes ys → slice_cmp nat_cmp xs ys ≡ nat_cmp (value xs) (value ys)
values [] [] e h g = refl
values [] (y ∷ ys) e h g = absurd (omega (arith, e))
values (x ∷ xs) [] e h g = absurd (omega (arith, e))
values (x ∷ xs) (y ∷ ys) e h g =
    let l : length xs ≡ length ys = omega (arith, e) in
    ap (ordering_then (nat_cmp x y)) (values xs ys l h.1 g.1)
    ∙ digits (256 ^ length xs) (value xs) (value ys) x y (value_fits xs h.1) (subst (λ n. value ys < 256 ^ n) (sym l) (value_fits ys g.1))
    ∙ ap (λ n. nat_cmp (x * 256 ^ length xs + value xs) (y * 256 ^ n + value ys)) l

word_value : (xs : List ℕ) → length xs ≡ 8 → from_be_bytes w64 xs ≡ value xs
word_value (a ∷ b ∷ c ∷ d ∷ e ∷ f ∷ g ∷ h ∷ []) l = omega arith
word_value xs l = absurd (omega (arith, l))

-- ---- a front of one length, and what stands behind it

then_assoc : (o p q : Ordering) → ordering_then (ordering_then o p) q ≡ ordering_then o (ordering_then p q)
then_assoc Less p q = refl
then_assoc Equal p q = refl
then_assoc Greater p q = refl

fronts : (xs ys r s : List ℕ) → length xs ≡ length ys → slice_cmp nat_cmp (xs ++ r) (ys ++ s) ≡ ordering_then (slice_cmp nat_cmp xs ys) (slice_cmp nat_cmp r s)
fronts [] [] r s e = refl
fronts [] (y ∷ ys) r s e = absurd (omega (arith, e))
fronts (x ∷ xs) [] r s e = absurd (omega (arith, e))
fronts (x ∷ xs) (y ∷ ys) r s e = ap (ordering_then (nat_cmp x y)) (fronts xs ys r s (omega (arith, e))) ∙ sym (then_assoc (nat_cmp x y) (slice_cmp nat_cmp xs ys) (slice_cmp nat_cmp r s))

-- the first eight bytes of both as numbers, and then what stands behind them
module _ (xs ys : List ℕ) (bytes : (i : ℕ) → get_or xs i 0 < 256) (other : (i : ℕ) → get_or ys i 0 < 256) (long : 8 ≤ length xs) (long_too : 8 ≤ length ys) where
  by_words : slice_cmp nat_cmp xs ys ≡ ordering_then (nat_cmp (from_be_bytes w64 (take 8 xs)) (from_be_bytes w64 (take 8 ys))) (slice_cmp nat_cmp (drop 8 xs) (drop 8 ys))
  by_words =
      let l = length-take-le 8 xs long in
      let k = length-take-le 8 ys long_too in
      ap (λ zs. slice_cmp nat_cmp zs ys) (sym (take-append-drop 8 xs))
      ∙ ap (slice_cmp nat_cmp (take 8 xs ++ drop 8 xs)) (sym (take-append-drop 8 ys))
      ∙ fronts (take 8 xs) (take 8 ys) (drop 8 xs) (drop 8 ys) (l ∙ sym k)
      ∙ ap (λ o. ordering_then o (slice_cmp nat_cmp (drop 8 xs) (drop 8 ys)))
      (values (take 8 xs) (take 8 ys) (l ∙ sym k) (front_bytes 8 xs bytes) (front_bytes 8 ys other)
      ∙ ap (λ n. nat_cmp n (value (take 8 ys))) (sym (word_value (take 8 xs) l))
      ∙ ap (nat_cmp (from_be_bytes w64 (take 8 xs))) (sym (word_value (take 8 ys) k)))

  decided : (m n : ℕ) (z : Ordering) → (m ≡ n) ⊎ ((m < n) ⊎ (n < m)) → (m ≡ n → ⊥) → nat_cmp m n ≡ ordering_then (nat_cmp m n) z
  decided m n z (inl e) h = absurd (h e)
  decided m n z (inr (inl l)) h = less m n l ∙ sym (ap (λ o. ordering_then o z) (less m n l))
  decided m n z (inr (inr l)) h = greater m n l ∙ sym (ap (λ o. ordering_then o z) (greater m n l))

  -- where the words differ they decide
  pub words_differ : (m n : ℕ) → m ≡ from_be_bytes w64 (take 8 xs) → n ≡ from_be_bytes w64 (take 8 ys) → (m ≡ n → ⊥) → nat_cmp m n ≡ slice_cmp nat_cmp xs ys
  words_differ m n e f h =
      decided m n (slice_cmp nat_cmp (drop 8 xs) (drop 8 ys)) (cases_order m n) h
      ∙ ap (λ k. ordering_then (nat_cmp k n) (slice_cmp nat_cmp (drop 8 xs) (drop 8 ys))) e
      ∙ ap (λ k. ordering_then (nat_cmp (from_be_bytes w64 (take 8 xs)) k) (slice_cmp nat_cmp (drop 8 xs) (drop 8 ys))) f
      ∙ sym by_words

  -- and where they are the same what stands behind them does
  pub words_same : (m n : ℕ) → m ≡ from_be_bytes w64 (take 8 xs) → n ≡ from_be_bytes w64 (take 8 ys) → m ≡ n → slice_cmp nat_cmp (drop 8 xs) (drop 8 ys) ≡ slice_cmp nat_cmp xs ys
  words_same m n e f h =
      sym (ap (λ o. ordering_then o (slice_cmp nat_cmp (drop 8 xs) (drop 8 ys))) (ap (nat_cmp (from_be_bytes w64 (take 8 xs))) (sym f ∙ sym h ∙ e) ∙ level (from_be_bytes w64 (take 8 xs))))
      ∙ sym by_words
