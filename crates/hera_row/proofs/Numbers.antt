-- An int and its 8 bytes.
use Rattle.std.proofs.Common.{◌≡◌, ℕ, suc, ◌-◌, ◌^◌, ◌<◌, ◌≤◌, true, List, [], ◌∷◌, length, take, sym, ap, ◌∙◌, arith, ℤ, pos, negsuc, ◌-ℤ◌, get_or, inl, inr}
use Rattle.std.specs.Int.{to_be_bytes, from_be_bytes, w64}
use Rattle.std.proofs.lemmas.Bool.{ltb-true, lt-ltb, le-ltb, cases_lt}
use Rattle.std.proofs.lemmas.Int.{ints}
use Rattle.std.proofs.lemmas.List.{append-nil, take_all}
use Rattle.std.proofs.lemmas.Nat.{be_bytes_8}
use Rattle.byteorder.specs.Endian.{big_from}
use Rattle.byteorder.specs.Numbers.{length-bytes_high_first, big_number-reads_back}
use Rattle.hera_meaning.specs.Scalars.{fits_int}
use Rattle.hera_meaning.specs.Rows.{shifted, number_from}

pub shifted-below : (v : ℤ) → fits_int v ≡ true → shifted v < 2 ^ 64
shifted-below (pos n) h = omega (arith, ltb-true n (2 ^ 63) h)
shifted-below (negsuc n) h = omega (arith, ltb-true n (2 ^ 63) h)

-- 2 ^ 63 taken away again
pub shifted-back : (v : ℤ) → fits_int v ≡ true → pos (shifted v) -ℤ pos (2 ^ 63) ≡ v
shifted-back (pos n) h = omega (arith, ints, ltb-true n (2 ^ 63) h)
shifted-back (negsuc n) h = omega (arith, ints, ltb-true n (2 ^ 63) h)

abbrev pub lowered : ℕ → ℤ
lowered n = pos n -ℤ pos (2 ^ 63)

pub lowered_fits : (n : ℕ) → n < 2 ^ 64 → fits_int (lowered n) ≡ true
lowered_fits n h =
    elim (cases_lt n (2 ^ 63)) [
      | inl p ↦ rw (lt-ltb n (2 ^ 63) p) (lt-ltb (2 ^ 63 - suc n) (2 ^ 63) (omega arith))
      | inr p ↦ rw (le-ltb n (2 ^ 63) p) (lt-ltb (n - 2 ^ 63) (2 ^ 63) (omega arith))
    ]

pub shifted-lowered : (n : ℕ) → n < 2 ^ 64 → shifted (lowered n) ≡ n
shifted-lowered n h =
    elim (cases_lt n (2 ^ 63)) [
      | inl p ↦ rw (lt-ltb n (2 ^ 63) p) (omega arith)
      | inr p ↦ rw (le-ltb n (2 ^ 63) p) (omega arith)
    ]

-- the number of the first 8 bytes, in two forms
pub number_from-first : (bytes : List ℕ) → 8 ≤ length bytes → number_from 0 (take 8 bytes) ≡ big_from 0 8 bytes
number_from-first [] h = absurd (omega (arith, h))
number_from-first (a ∷ []) h = absurd (omega (arith, h))
number_from-first (a ∷ b ∷ []) h = absurd (omega (arith, h))
number_from-first (a ∷ b ∷ c ∷ []) h = absurd (omega (arith, h))
number_from-first (a ∷ b ∷ c ∷ d ∷ []) h = absurd (omega (arith, h))
number_from-first (a ∷ b ∷ c ∷ d ∷ e ∷ []) h = absurd (omega (arith, h))
number_from-first (a ∷ b ∷ c ∷ d ∷ e ∷ f ∷ []) h = absurd (omega (arith, h))
number_from-first (a ∷ b ∷ c ∷ d ∷ e ∷ f ∷ g ∷ []) h = absurd (omega (arith, h))
number_from-first (a ∷ b ∷ c ∷ d ∷ e ∷ f ∷ g ∷ i ∷ rest) h = omega arith

pub length-to_be_bytes : (n : ℕ) → length (to_be_bytes w64 n) ≡ 8
length-to_be_bytes n = length-bytes_high_first 8 n

-- what an int's bytes write is read
pub number_from-to_be_bytes : (n : ℕ) → n < 2 ^ 64 → number_from 0 (to_be_bytes w64 n) ≡ n
number_from-to_be_bytes n h =
    let long = length-to_be_bytes n in
    ap (number_from 0) (sym (take_all 8 (to_be_bytes w64 n) (omega (arith, long))))
    ∙ number_from-first (to_be_bytes w64 n) (omega (arith, long))
    ∙ ap (big_from 0 8) (sym (append-nil (to_be_bytes w64 n)))
    ∙ big_number-reads_back 8 n [] h

-- 8 bytes are those of the number that they write
pub to_be_bytes-number_from : (bytes : List ℕ) → length bytes ≡ 8 → ((i : ℕ) → get_or bytes i 0 < 256) → to_be_bytes w64 (number_from 0 bytes) ≡ bytes
to_be_bytes-number_from bytes long all = be_bytes_8 bytes (number_from 0 bytes) long all (same bytes long)
  where
    same : (bytes : List ℕ) → length bytes ≡ 8 → number_from 0 bytes ≡ from_be_bytes w64 bytes
    same [] h = absurd (omega (arith, h))
    same (a ∷ []) h = absurd (omega (arith, h))
    same (a ∷ b ∷ []) h = absurd (omega (arith, h))
    same (a ∷ b ∷ c ∷ []) h = absurd (omega (arith, h))
    same (a ∷ b ∷ c ∷ d ∷ []) h = absurd (omega (arith, h))
    same (a ∷ b ∷ c ∷ d ∷ e ∷ []) h = absurd (omega (arith, h))
    same (a ∷ b ∷ c ∷ d ∷ e ∷ f ∷ []) h = absurd (omega (arith, h))
    same (a ∷ b ∷ c ∷ d ∷ e ∷ f ∷ g ∷ []) h = absurd (omega (arith, h))
    same (a ∷ b ∷ c ∷ d ∷ e ∷ f ∷ g ∷ i ∷ []) h = omega arith
    same (a ∷ b ∷ c ∷ d ∷ e ∷ f ∷ g ∷ i ∷ j ∷ rest) h = absurd (omega (arith, h))

-- and the number fits 64 bits
pub number_from-below : (bytes : List ℕ) → length bytes ≡ 8 → ((i : ℕ) → get_or bytes i 0 < 256) → number_from 0 bytes < 2 ^ 64
number_from-below [] h all = absurd (omega (arith, h))
number_from-below (a ∷ []) h all = absurd (omega (arith, h))
number_from-below (a ∷ b ∷ []) h all = absurd (omega (arith, h))
number_from-below (a ∷ b ∷ c ∷ []) h all = absurd (omega (arith, h))
number_from-below (a ∷ b ∷ c ∷ d ∷ []) h all = absurd (omega (arith, h))
number_from-below (a ∷ b ∷ c ∷ d ∷ e ∷ []) h all = absurd (omega (arith, h))
number_from-below (a ∷ b ∷ c ∷ d ∷ e ∷ f ∷ []) h all = absurd (omega (arith, h))
number_from-below (a ∷ b ∷ c ∷ d ∷ e ∷ f ∷ g ∷ []) h all = absurd (omega (arith, h))
number_from-below (a ∷ b ∷ c ∷ d ∷ e ∷ f ∷ g ∷ i ∷ rest) h all =
    let long : length rest ≡ 0 = omega (arith, h) in
    let none : rest ≡ [] = Rattle.std.proofs.lemmas.List.nil_from_length rest long in
    rw none (omega (arith, all 0, all 1, all 2, all 3, all 4, all 5, all 6, all 7))
