-- Ints in range.
use Rattle.std.proofs.Common.{◌≡◌, ℕ, zero, suc, ◌-◌, ◌*◌, ◌/◌, ◌%◌, ◌^◌, ◌<◌, ◌≤◌, Bool, true, false, cond, refl, sym, ap, ◌∙◌, arith, ℤ, pos, negsuc, neg_ℤ}
use Rattle.std.specs.Prelude.{int_div, int_rem, int_le, nat_lt}
use Rattle.std.proofs.lemmas.Bool.{false≢true, ltb-true, ltb-false, lt-ltb}
use Rattle.std.proofs.lemmas.Nat.{div_below}
use Rattle.std.proofs.Math.Nat.{div-le_self, mod-le}
use Rattle.std.proofs.Math.IntN.{nat_abs}
use Rattle.hera_meaning.specs.Scalars.{fits_int}
use Rattle.hera_meaning.specs.Primitives.{is_least_by_minus_one}
use Rattle.hera_meaning.specs.Hosts.{floor_by, max_int, min_int}

pub fits_pos : (n : ℕ) → n < 2 ^ 63 → fits_int (pos n) ≡ true
fits_pos n lt = lt-ltb n (2 ^ 63) lt

fits_below : (n : ℕ) → nat_lt n (2 ^ 63) ≡ true → n < 2 ^ 63
fits_below n h = ltb-true n (2 ^ 63) h

fits_neg : (q : ℕ) → q ≤ 2 ^ 63 → fits_int (neg_ℤ (pos q)) ≡ true
fits_neg zero le = refl
fits_neg (suc q) le = lt-ltb q (2 ^ 63) (omega (arith, le))

pub quot_in : (a b : ℤ) → fits_int a ≡ true → is_least_by_minus_one a b ≡ false → fits_int (int_div a b) ≡ true
quot_in (pos a) (pos b) h ne = let lt = fits_below a h in fits_pos (a / b) (omega (arith, lt, div-le_self a b))
quot_in (pos a) (negsuc b) h ne = let lt = fits_below a h in fits_neg (a / suc b) (omega (arith, lt, div-le_self a (suc b)))
quot_in (negsuc a) (pos b) h ne = let lt = fits_below a h in fits_neg (suc a / b) (omega (arith, lt, div-le_self (suc a) b))
quot_in (negsuc a) (negsuc zero) h ne = least (nat_lt a (2 ^ 63 - 1)) refl
  where
    lt : a < 2 ^ 63
    lt = fits_below a h

    is_least : a ≡ 2 ^ 63 - 1 → ⊥
    is_least e = false≢true (sym ne ∙ ap (λ a. is_least_by_minus_one (negsuc a) (negsuc 0)) e)

    least : (b : Bool) → nat_lt a (2 ^ 63 - 1) ≡ b → fits_int (pos (suc a / 1)) ≡ true
    least true e = let less : a < 2 ^ 63 - 1 = ltb-true a (2 ^ 63 - 1) e in fits_pos (suc a / 1) (omega (arith, less, div-le_self (suc a) 1))
    least false e = absurd (is_least (let ge : 2 ^ 63 - 1 ≤ a = ltb-false a (2 ^ 63 - 1) e in omega (arith, lt, ge)))
quot_in (negsuc a) (negsuc (suc b)) h ne =
    let lt = fits_below a h in
    let some_there : 0 < suc (suc b) = omega arith in
    let less : suc a < 2 ^ 63 * suc (suc b) = omega (arith, lt) in
    fits_pos (suc a / suc (suc b)) (div_below (suc a) (suc (suc b)) (2 ^ 63) some_there less)

pub rem_in : (a b : ℤ) → fits_int a ≡ true → fits_int (int_rem a b) ≡ true
rem_in (pos a) b h = let lt = fits_below a h in fits_pos (a % nat_abs b) (omega (arith, lt, mod-le a (nat_abs b)))
rem_in (negsuc a) b h = let lt = fits_below a h in fits_neg (suc a % nat_abs b) (omega (arith, lt, mod-le (suc a) (nat_abs b)))

-- a host's numbers
pub floor_in : (width : ℕ) (v : ℤ) → fits_int v ≡ true → fits_int (floor_by width v) ≡ true
floor_in width (pos n) h = let lt = fits_below n h in fits_pos (n / width) (omega (arith, lt, div-le_self n width))
floor_in width (negsuc n) h = let lt = fits_below n h in lt-ltb (n / width) (2 ^ 63) (omega (arith, lt, div-le_self n width))

cond_in : (b : Bool) (v w : ℤ) → fits_int v ≡ true → fits_int w ≡ true → fits_int (cond b v w) ≡ true
cond_in true v w h g = h
cond_in false v w h g = g

pub clamp_in : (v lo hi : ℤ) → fits_int v ≡ true → fits_int lo ≡ true → fits_int hi ≡ true → fits_int (min_int (max_int v lo) hi) ≡ true
clamp_in v lo hi h g k = cond_in (int_le (max_int v lo) hi) (max_int v lo) hi (cond_in (int_le v lo) lo v g h) k
