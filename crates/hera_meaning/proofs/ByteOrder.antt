-- The bytes of a number, high first, are in the numbers' order.
use Rattle.std.proofs.Common.{◌/◌, ◌%◌, ◌≡◌, ℕ, zero, suc, ◌+◌, ◌*◌, ◌^◌, ◌<◌, ◌≤◌, List, ◌++◌, refl, sym, ap, ◌∙◌, inl, inr, arith}
use Rattle.std.proofs.Math.Nat.{add-mul, add_assoc, div-add-mod', div-one, mod-eq_of_lt, mod-lt, mul-add-mod_self_right, mul-le-mul_right, mul_assoc, one-le-pow, pow-succ'}
use Rattle.std.proofs.lemmas.Bool.{cases_order, lt-ltb, le-ltb, eq-eqb, ne_eqb}
use Rattle.std.specs.Int.{byte_at, bytes_high_first}
use Rattle.std.specs.Ordering.{nat_cmp, ordering_then}
use Rattle.std.specs.declared.cmp.Ordering.{Ordering}
use Rattle.std.specs.declared.cmp.Ordering.TheVariants.{Less, Equal, Greater}
use Rattle.std.specs.Cmp.Lexicographic.{slice_cmp}

pub cmp_less : (a b : ℕ) → a < b → nat_cmp a b ≡ Less
cmp_less a b h = rw lt-ltb refl

pub cmp_greater : (a b : ℕ) → b < a → nat_cmp a b ≡ Greater
cmp_greater a b h = rw (le-ltb a b (omega arith), ne_eqb a b (omega arith)) refl

pub cmp_equal : (a : ℕ) → nat_cmp a a ≡ Equal
cmp_equal a = rw (le-ltb a a (omega arith), eq-eqb a a refl) refl

pub then_assoc : (o p q : Ordering) → ordering_then (ordering_then o p) q ≡ ordering_then o (ordering_then p q)
then_assoc Less p q = refl
then_assoc Equal p q = refl
then_assoc Greater p q = refl

-- two digits: the high ones decide first
pub cmp_digits : (x y a b p : ℕ) → a < p → b < p → nat_cmp (x * p + a) (y * p + b) ≡ ordering_then (nat_cmp x y) (nat_cmp a b)
cmp_digits x y a b p h g =
    elim (cases_order x y) [
      | inl e ↦ same e
      | inr (inl lt) ↦
          let top : (x + 1) * p ≤ y * p = mul-le-mul_right p (omega arith) in
          let expand : (x + 1) * p ≡ x * p + 1 * p = add-mul x 1 p in
          rw (cmp_less x y lt) (cmp_less (x * p + a) (y * p + b) (omega arith))
      | inr (inr gt) ↦
          let top : (y + 1) * p ≤ x * p = mul-le-mul_right p (omega arith) in
          let expand : (y + 1) * p ≡ y * p + 1 * p = add-mul y 1 p in
          rw (cmp_greater x y gt) (cmp_greater (x * p + a) (y * p + b) (omega arith))
    ]
  where
    low : nat_cmp (x * p + a) (x * p + b) ≡ nat_cmp a b
    low = elim (cases_order a b) [
      | inl e ↦ ap (λ (z : ℕ). nat_cmp (x * p + z) (x * p + b)) e ∙ cmp_equal (x * p + b) ∙ sym (cmp_equal b) ∙ ap (λ (z : ℕ). nat_cmp z b) (sym e)
      | inr (inl lt) ↦ cmp_less (x * p + a) (x * p + b) (omega arith) ∙ sym (cmp_less a b lt)
      | inr (inr gt) ↦ cmp_greater (x * p + a) (x * p + b) (omega arith) ∙ sym (cmp_greater a b gt)
    ]

    same : x ≡ y → nat_cmp (x * p + a) (y * p + b) ≡ ordering_then (nat_cmp x y) (nat_cmp a b)
    same e = ap (λ (z : ℕ). nat_cmp (x * p + a) (z * p + b)) (sym e) ∙ low ∙ ap (λ (o : Ordering). ordering_then o (nat_cmp a b)) (sym (cmp_equal x) ∙ ap (nat_cmp x) e)

-- the two low digits of n, to the bases c and then m
pub mod-split : (n : ℕ) {m c : ℕ} → zero < m → zero < c → n % (m * c) ≡ (n / c % m) * c + n % c
mod-split n {m} {c} hm hc =
    let a = mod-lt (n / c) hm in
    let b = mod-lt n hc in
    let top : (n / c % m + 1) * c ≤ m * c = mul-le-mul_right c (omega arith) in
    let expand : (n / c % m + 1) * c ≡ n / c % m * c + 1 * c = add-mul (n / c % m) 1 c in
    let split : n ≡ n / c / m * (m * c) + (n / c % m * c + n % c) =
    sym (div-add-mod' n c)
    ∙ ap (λ (x : ℕ). x * c + n % c) (sym (div-add-mod' (n / c) m))
    ∙ ap (λ (x : ℕ). x + n % c) (add-mul (n / c / m * m) (n / c % m) c ∙ ap (λ (x : ℕ). x + n / c % m * c) (mul_assoc (n / c / m) m c))
    ∙ add_assoc (n / c / m * (m * c)) (n / c % m * c) (n % c) in
    ap (λ (x : ℕ). x % (m * c)) split ∙ mul-add-mod_self_right (n / c / m) (m * c) (n / c % m * c + n % c) ∙ mod-eq_of_lt (omega arith)

pub byte_at-pow : (k x : ℕ) → byte_at k x ≡ x / 256 ^ k % 256
byte_at-pow zero x = ap (λ (y : ℕ). y % 256) (sym (div-one x))
byte_at-pow (suc k) x = refl

pub pow_pos256 : (n : ℕ) → zero < 256 ^ n
pow_pos256 n = let h = one-le-pow n 256 (omega arith) in omega arith

-- the bytes decide as the numbers do, and what follows decides where they tie
cmp_bytes_mod : (k m n : ℕ) (us vs : List ℕ) → slice_cmp nat_cmp (bytes_high_first k m ++ us) (bytes_high_first k n ++ vs) ≡ ordering_then (nat_cmp (m % 256 ^ k) (n % 256 ^ k)) (slice_cmp nat_cmp us vs)
cmp_bytes_mod zero m n us vs =
    let a : m % 256 ^ 0 ≡ 0 = omega arith in
    let b : n % 256 ^ 0 ≡ 0 = omega arith in
    rw (a, b) refl
cmp_bytes_mod (suc k) m n us vs =
    let a = mod-split m {m = 256} {c = 256 ^ k} (omega arith) (pow_pos256 k) in
    let b = mod-split n {m = 256} {c = 256 ^ k} (omega arith) (pow_pos256 k) in
    ap (ordering_then (nat_cmp (byte_at k m) (byte_at k n))) (cmp_bytes_mod k m n us vs)
    ∙ sym (then_assoc (nat_cmp (byte_at k m) (byte_at k n)) (nat_cmp (m % 256 ^ k) (n % 256 ^ k)) (slice_cmp nat_cmp us vs))
    ∙ ap (λ (o : Ordering). ordering_then o (slice_cmp nat_cmp us vs))
    (rw (byte_at-pow k m, byte_at-pow k n, pow-succ' 256 k, a, b) (sym (cmp_digits (m / 256 ^ k % 256) (n / 256 ^ k % 256) (m % 256 ^ k) (n % 256 ^ k) (256 ^ k) (mod-lt m (pow_pos256 k)) (mod-lt n (pow_pos256 k)))))

pub cmp_bytes : (k m n : ℕ) (us vs : List ℕ) → m < 256 ^ k → n < 256 ^ k → slice_cmp nat_cmp (bytes_high_first k m ++ us) (bytes_high_first k n ++ vs) ≡ ordering_then (nat_cmp m n) (slice_cmp nat_cmp us vs)
cmp_bytes k m n us vs h g = cmp_bytes_mod k m n us vs ∙ (λ i. ordering_then (nat_cmp (mod-eq_of_lt h i) (mod-eq_of_lt g i)) (slice_cmp nat_cmp us vs))
