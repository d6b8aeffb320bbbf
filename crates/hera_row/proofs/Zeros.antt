-- Where the first zero byte stands.
use Rattle.std.proofs.Common.{◌≡◌, ℕ, zero, suc, ◌+◌, ◌<◌, ◌≤◌, Bool, true, false, List, [], ◌∷◌, ◌++◌, Some, None, length, take, refl, sym, ap, subst, ◌∙◌, arith, nat_lt, nat_eq, ◌-◌, length-append, length-take-le}
use Rattle.std.specs.List.{position, position_or_len, list_all}
use Rattle.std.proofs.lemmas.Bool.{ltb-true, ltb-false, lt-ltb, ne_eqb, and_parts}
use Rattle.std.proofs.lemmas.Option.{none-some, cond_some}
use Rattle.std.proofs.lemmas.List.{take_all, take-take}
use Rattle.std.proofs.lemmas.List.Sums.{prefix_len-le-length}
use Rattle.hera_meaning.specs.Rows.{through_zero}

-- the place of the first zero byte, or the length
abbrev pub zero_place : List ℕ → ℕ
zero_place bytes = position_or_len (λ b. nat_eq b 0) bytes

pub zero_place-le-length : (bytes : List ℕ) → zero_place bytes ≤ length bytes
zero_place-le-length bytes = prefix_len-le-length _ bytes

pub zero_found : (bytes : List ℕ) (n : ℕ) → position (λ b. nat_eq b 0) bytes ≡ Some n → (zero_place bytes ≡ n) × (n < length bytes)
zero_found bytes n h =
    let p = cond_some (nat_lt (zero_place bytes) (length bytes)) (zero_place bytes) n h in
    let within : zero_place bytes < length bytes = ltb-true _ _ p.0 in
    (p.1, omega (arith, within, p.1))

pub zero_missing : (bytes : List ℕ) → position (λ b. nat_eq b 0) bytes ≡ None → zero_place bytes ≡ length bytes
zero_missing bytes h = by (nat_lt (zero_place bytes) (length bytes)) refl h
  where
    by : (v : Bool) → nat_lt (zero_place bytes) (length bytes) ≡ v → Rattle.std.proofs.Common.cond v (Some (zero_place bytes)) None ≡ None → zero_place bytes ≡ length bytes
    by true e g = absurd (none-some (zero_place bytes) (sym g))
    by false e g = omega (arith, ltb-false _ _ e, zero_place-le-length bytes)

-- the bytes up to the first zero byte and with it
pub through_zero-take : (bytes : List ℕ) → through_zero bytes ≡ take (zero_place bytes + 1) bytes
through_zero-take [] = refl
through_zero-take (zero ∷ bytes) = refl
through_zero-take (suc b ∷ bytes) =
    rw (ne_eqb (suc b) 0 (λ e. omega (arith, e)))
    (ap (λ t. suc b ∷ t) (through_zero-take bytes) ∙ ap (λ n. take n (suc b ∷ bytes)) (suc_place (zero_place bytes)))
  where
    suc_place : (n : ℕ) → suc (n + 1) ≡ 1 + n + 1
    suc_place n = omega arith

pub through_zero-found : (bytes : List ℕ) (n : ℕ) → position (λ b. nat_eq b 0) bytes ≡ Some n → through_zero bytes ≡ take (n + 1) bytes
through_zero-found bytes n h = through_zero-take bytes ∙ ap (λ k. take (k + 1) bytes) (zero_found bytes n h).0

pub through_zero-missing : (bytes : List ℕ) → position (λ b. nat_eq b 0) bytes ≡ None → through_zero bytes ≡ bytes
through_zero-missing bytes h = through_zero-take bytes ∙ take_all (zero_place bytes + 1) bytes (omega (arith, zero_missing bytes h))

-- no byte is zero
abbrev pub has_no_zero : List ℕ → Bool
has_no_zero bytes = list_all (λ b. nat_lt 0 b) bytes

-- the bytes before the first zero byte are not zero
pub no_zero-before : (bytes : List ℕ) (n : ℕ) → n ≤ zero_place bytes → has_no_zero (take n bytes) ≡ true
no_zero-before [] zero h = refl
no_zero-before [] (suc n) h = refl
no_zero-before (b ∷ bytes) zero h = refl
no_zero-before (zero ∷ bytes) (suc n) h = absurd (omega (arith, h))
no_zero-before (suc b ∷ bytes) (suc n) h =
    let place : zero_place (suc b ∷ bytes) ≡ 1 + zero_place bytes = rw (ne_eqb (suc b) 0 (λ e. omega (arith, e))) refl in
    rw (lt-ltb 0 (suc b) (omega arith)) (no_zero-before bytes n (omega (arith, h, place)))

-- a zero byte put behind bytes without one is the first
pub zero_place-behind : (t rest : List ℕ) → has_no_zero t ≡ true → zero_place ((t ++ 0 ∷ []) ++ rest) ≡ length t
zero_place-behind [] rest h = refl
zero_place-behind (x ∷ xs) rest h =
    let p = and_parts (nat_lt 0 x) (has_no_zero xs) h in
    let above : 0 < x = ltb-true 0 x p.0 in
    rw (ne_eqb x 0 (λ e. omega (arith, e, above))) (omega (arith, zero_place-behind xs rest p.1))

pub position-behind : (t rest : List ℕ) → has_no_zero t ≡ true → position (λ b. nat_eq b 0) ((t ++ 0 ∷ []) ++ rest) ≡ Some (length t)
position-behind t rest h =
    let at = zero_place-behind t rest h in
    let long : length t < length ((t ++ 0 ∷ []) ++ rest) = omega (arith, length-append (t ++ 0 ∷ []) rest, length-append t (0 ∷ [])) in
    rw (at, lt-ltb (length t) (length ((t ++ 0 ∷ []) ++ rest)) long) refl

pub through_zero-behind : (t rest : List ℕ) → has_no_zero t ≡ true → through_zero ((t ++ 0 ∷ []) ++ rest) ≡ t ++ 0 ∷ []
through_zero-behind t rest h =
    through_zero-found ((t ++ 0 ∷ []) ++ rest) (length t) (position-behind t rest h)
    ∙ Rattle.std.proofs.lemmas.List.take_at (t ++ 0 ∷ []) rest (length t + 1) (length-append t (0 ∷ []))

-- the bytes before the first zero byte
pub before_zero-found : (bytes : List ℕ) (n : ℕ) → position (λ b. nat_eq b 0) bytes ≡ Some n → take (length (through_zero bytes) - 1) (through_zero bytes) ≡ take n bytes
before_zero-found bytes n h =
    let within : n + 1 ≤ length bytes = omega (arith, (zero_found bytes n h).1) in
    let long : length (take (n + 1) bytes) - 1 ≡ n = omega (arith, length-take-le (n + 1) bytes within) in
    ap (λ t. take (length t - 1) t) (through_zero-found bytes n h)
    ∙ ap (λ k. take k (take (n + 1) bytes)) long
    ∙ take-take n (n + 1) bytes (omega arith)

-- the first zero byte stands behind them
pub take_zero : (bytes : List ℕ) → zero_place bytes < length bytes → take (zero_place bytes + 1) bytes ≡ take (zero_place bytes) bytes ++ 0 ∷ []
take_zero [] h = absurd (omega (arith, h))
take_zero (zero ∷ bytes) h = refl
take_zero (suc b ∷ bytes) h =
    let place : zero_place (suc b ∷ bytes) ≡ suc (zero_place bytes) = rw (ne_eqb (suc b) 0 (λ e. omega (arith, e))) (omega arith) in
    let P : ℕ → Type 0 = λ n. take (n + 1) (suc b ∷ bytes) ≡ take n (suc b ∷ bytes) ++ 0 ∷ [] in
    let step : suc (zero_place bytes) + 1 ≡ suc (zero_place bytes + 1) = omega arith in
    subst P (sym place) (ap (λ k. take k (suc b ∷ bytes)) step ∙ ap (λ t. suc b ∷ t) (take_zero bytes (omega (arith, h, place))))
