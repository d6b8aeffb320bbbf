-- A field: what its bytes are read as, and which bytes are a field's.
use Rattle.std.proofs.Common.{◌≡◌, ◌≢◌, ℕ, zero, suc, ◌+◌, ◌-◌, ◌<◌, ◌≤◌, Bool, true, false, cond, ◌&&◌, List, [], ◌∷◌, ◌++◌, Some, None, length, take, drop, refl, sym, ap, subst, ◌∙◌, inl, inr, arith, nat_lt, nat_le, nat_eq, get_or, length-append, length-take, length-take-le, All}
use Rattle.std.specs.List.{position}
use Rattle.std.specs.Int.{to_be_bytes, w64}
use Rattle.std.specs.Str.{is_utf8}
use Rattle.std.proofs.lemmas.Bool.{ltb-true, leb-true, le-leb, lt-ltb, le-ltb, ltb-false, and_parts, and_from, false≢true, cases_lt}
use Rattle.std.proofs.lemmas.Option.{none-some, same_Some, cond_some, option_and_then_some}
use Rattle.std.proofs.lemmas.List.{take_at, get_or-take, get_or-drop, get_or_past}
use Rattle.std.proofs.lemmas.List.Elements.{All-head, All-tail}
use Rattle.std.proofs.lemmas.Str.{is_utf8-from_IsUtf8}
use Rattle.hera_meaning.specs.declared.scalars.Kind.{Kind}
use Rattle.hera_meaning.specs.declared.scalars.Kind.TheVariants.{Int as int_kind, Bool as bool_kind, Text as text_kind}
use Rattle.hera_meaning.specs.declared.scalars.Scalar.{Scalar}
use Rattle.hera_meaning.specs.declared.scalars.Scalar.TheVariants.{Int as int_scalar, Bool as bool_scalar, Text as text_scalar}
use Rattle.hera_meaning.specs.Texts.{IsText, is_text, text_limit}
use Rattle.hera_meaning.specs.Scalars.{is_kind, is_scalar}
use Rattle.hera_meaning.specs.Rows.{field_bytes, first_piece, scalar_of, shifted, number_from}
use Rattle.hera_row.specs.Reading.{field_len}
use Rattle.hera_row.proofs.Zeros.{has_no_zero, zero_found, through_zero-found, through_zero-behind, position-behind, no_zero-before, take_zero}
use Rattle.hera_row.proofs.Numbers.{shifted-below, shifted-back, lowered, lowered_fits, shifted-lowered, number_from-to_be_bytes, to_be_bytes-number_from, number_from-below, length-to_be_bytes}

-- ---- texts

no_zero-from_All : (t : List ℕ) → All (λ b. b ≢ 0) t → has_no_zero t ≡ true
no_zero-from_All [] h = refl
no_zero-from_All (x ∷ xs) h =
    rw (lt-ltb 0 x (omega (arith, All-head (λ b. b ≢ 0) x xs h))) (no_zero-from_All xs (All-tail (λ b. b ≢ 0) x xs h))

pub is_text-from_IsText : (t : List ℕ) → IsText t → is_text t ≡ true
is_text-from_IsText t h =
    and_from _ _ (and_from _ _ (le-leb (length t) text_limit h.short) (no_zero-from_All t h.nonzero)) (is_utf8-from_IsUtf8 t h.utf8)

-- the three tests of a text
pub record TextTests (t : List ℕ) : Type 0 where
  pub short : length t ≤ text_limit
  pub nonzero : has_no_zero t ≡ true
  pub utf8 : is_utf8 t ≡ true

pub text_tests : (t : List ℕ) → is_text t ≡ true → TextTests t
text_tests t h =
    let p = and_parts (nat_le (length t) text_limit && has_no_zero t) (is_utf8 t) h in
    let q = and_parts (nat_le (length t) text_limit) (has_no_zero t) p.0 in
    record { short = leb-true _ _ q.0; nonzero = q.1; utf8 = p.1 }

-- ---- the bytes of a field, read

-- how long the field is
pub field_len-field_bytes : (k : Kind) (s : Scalar) (rest : List ℕ) → is_kind k s ≡ true → is_scalar s ≡ true → field_len k (field_bytes s ++ rest) ≡ Some (length (field_bytes s))
field_len-field_bytes int_kind (int_scalar v) rest k h =
    let size = length-to_be_bytes (shifted v) in
    rw (le-ltb (length (to_be_bytes w64 (shifted v) ++ rest)) 8 (omega (arith, length-append (to_be_bytes w64 (shifted v)) rest, size))) (ap Some (sym size))
field_len-field_bytes int_kind (bool_scalar b) rest k h = absurd (false≢true k)
field_len-field_bytes int_kind (text_scalar t) rest k h = absurd (false≢true k)
field_len-field_bytes bool_kind (int_scalar v) rest k h = absurd (false≢true k)
field_len-field_bytes bool_kind (bool_scalar true) rest k h = refl
field_len-field_bytes bool_kind (bool_scalar false) rest k h = refl
field_len-field_bytes bool_kind (text_scalar t) rest k h = absurd (false≢true k)
field_len-field_bytes text_kind (int_scalar v) rest k h = absurd (false≢true k)
field_len-field_bytes text_kind (bool_scalar b) rest k h = absurd (false≢true k)
field_len-field_bytes text_kind (text_scalar t) rest k h =
    let tests = text_tests t h in
    let front : take (length t) ((t ++ 0 ∷ []) ++ rest) ≡ t = ap (take (length t)) (Rattle.std.proofs.Common.append_assoc t (0 ∷ []) rest) ∙ take_at t (0 ∷ [] ++ rest) (length t) refl in
    rw (position-behind t rest tests.nonzero, front, le-leb (length t) text_limit tests.short, tests.utf8) (ap Some (sym (length-append t (0 ∷ []))))

-- which bytes they are
pub first_piece-field_bytes : (k : Kind) (s : Scalar) (rest : List ℕ) → is_kind k s ≡ true → is_scalar s ≡ true → first_piece k (field_bytes s ++ rest) ≡ field_bytes s
first_piece-field_bytes int_kind (int_scalar v) rest k h = take_at (to_be_bytes w64 (shifted v)) rest 8 (length-to_be_bytes (shifted v))
first_piece-field_bytes int_kind (bool_scalar b) rest k h = absurd (false≢true k)
first_piece-field_bytes int_kind (text_scalar t) rest k h = absurd (false≢true k)
first_piece-field_bytes bool_kind (int_scalar v) rest k h = absurd (false≢true k)
first_piece-field_bytes bool_kind (bool_scalar b) rest k h = refl
first_piece-field_bytes bool_kind (text_scalar t) rest k h = absurd (false≢true k)
first_piece-field_bytes text_kind (int_scalar v) rest k h = absurd (false≢true k)
first_piece-field_bytes text_kind (bool_scalar b) rest k h = absurd (false≢true k)
first_piece-field_bytes text_kind (text_scalar t) rest k h = through_zero-behind t rest (text_tests t h).nonzero

-- and which scalar they are
pub scalar_of-field_bytes : (k : Kind) (s : Scalar) → is_kind k s ≡ true → is_scalar s ≡ true → scalar_of k (field_bytes s) ≡ s
scalar_of-field_bytes int_kind (int_scalar v) k h = ap int_scalar (ap lowered (number_from-to_be_bytes (shifted v) (shifted-below v h)) ∙ shifted-back v h)
scalar_of-field_bytes int_kind (bool_scalar b) k h = absurd (false≢true k)
scalar_of-field_bytes int_kind (text_scalar t) k h = absurd (false≢true k)
scalar_of-field_bytes bool_kind (int_scalar v) k h = absurd (false≢true k)
scalar_of-field_bytes bool_kind (bool_scalar true) k h = refl
scalar_of-field_bytes bool_kind (bool_scalar false) k h = refl
scalar_of-field_bytes bool_kind (text_scalar t) k h = absurd (false≢true k)
scalar_of-field_bytes text_kind (int_scalar v) k h = absurd (false≢true k)
scalar_of-field_bytes text_kind (bool_scalar b) k h = absurd (false≢true k)
scalar_of-field_bytes text_kind (text_scalar t) k h = ap text_scalar (take_at t (0 ∷ []) (length (t ++ 0 ∷ []) - 1) (omega (arith, length-append t (0 ∷ []))))

-- ---- bytes that are a field's

-- each number is a byte
abbrev pub AreBytes : List ℕ → Type 0
AreBytes bytes = (i : ℕ) → get_or bytes i 0 < 256

-- the first n bytes are those of a scalar of the kind
pub record Begins (k : Kind) (bytes : List ℕ) (n : ℕ) : Type 0 where
  pub scalar : Scalar
  pub kind : is_kind k scalar ≡ true
  pub valid : is_scalar scalar ≡ true
  pub spelled : field_bytes scalar ≡ take n bytes
  pub within : n ≤ length bytes

pub AreBytes-take : (n : ℕ) (bytes : List ℕ) → AreBytes bytes → AreBytes (take n bytes)
AreBytes-take n bytes all i =
    elim (cases_lt i n) [
      | inl p ↦ rw (get_or-take n bytes i 0 p) (all i)
      | inr p ↦ rw (get_or_past (take n bytes) i 0 (omega (arith, length-take n bytes, p))) (omega arith)
    ]

pub AreBytes-drop : (n : ℕ) (bytes : List ℕ) → AreBytes bytes → AreBytes (drop n bytes)
AreBytes-drop n bytes all i = rw (get_or-drop n bytes i 0) (all (n + i))

begins_text : (bytes : List ℕ) (n : ℕ) → position (λ b. nat_eq b 0) bytes ≡ Some n → n ≤ text_limit → is_utf8 (take n bytes) ≡ true → Begins text_kind bytes (n + 1)
begins_text bytes n h short utf8 =
    let found = zero_found bytes n h in
    let long : length (take n bytes) ≡ n = length-take-le n bytes (omega (arith, found.1)) in
    let P : ℕ → Type 0 = λ k. take (k + 1) bytes ≡ take k bytes ++ 0 ∷ [] in
    record {
      scalar = text_scalar (take n bytes);
      kind = refl;
      valid = and_from _ _ (and_from _ _ (le-leb (length (take n bytes)) text_limit (omega (arith, long, short))) (no_zero-before bytes n (omega (arith, found.0)))) utf8;
      spelled = sym (subst P found.0 (take_zero bytes (omega (arith, found.0, found.1))));
      within = omega (arith, found.1);
    }

begins_int : (bytes : List ℕ) → AreBytes bytes → 8 ≤ length bytes → Begins int_kind bytes 8
begins_int bytes all long =
    let size = length-take-le 8 bytes long in
    let ours = AreBytes-take 8 bytes all in
    let below = number_from-below (take 8 bytes) size ours in
    record {
      scalar = int_scalar (lowered (number_from 0 (take 8 bytes)));
      kind = refl;
      valid = lowered_fits (number_from 0 (take 8 bytes)) below;
      spelled = ap (to_be_bytes w64) (shifted-lowered (number_from 0 (take 8 bytes)) below) ∙ to_be_bytes-number_from (take 8 bytes) size ours;
      within = long;
    }

bit : (b : ℕ) → b < 2 → cond (nat_lt 0 b) 1 0 ≡ b
bit zero h = refl
bit (suc b) h = rw (lt-ltb 0 (suc b) (omega arith)) (omega (arith, h))

begins_bool : (b : ℕ) (bytes : List ℕ) → b < 2 → Begins bool_kind (b ∷ bytes) 1
begins_bool b bytes h =
    record {
      scalar = bool_scalar (nat_lt 0 b);
      kind = refl;
      valid = refl;
      spelled = ap (λ x. x ∷ []) (bit b h);
      within = omega arith;
    }

pub field_len_begins : (k : Kind) (bytes : List ℕ) (n : ℕ) → AreBytes bytes → field_len k bytes ≡ Some n → Begins k bytes n
field_len_begins int_kind bytes n all h = by (nat_lt (length bytes) 8) refl h
  where
    by : (v : Bool) → nat_lt (length bytes) 8 ≡ v → cond v None (Some 8) ≡ Some n → Begins int_kind bytes n
    by true e g = absurd (none-some n g)
    by false e g = subst (Begins int_kind bytes) (same_Some 8 n g) (begins_int bytes all (ltb-false (length bytes) 8 e))
field_len_begins bool_kind [] n all h = absurd (none-some n h)
field_len_begins bool_kind (b ∷ bytes) n all h =
    let p = cond_some (nat_lt b 2) 1 n h in
    subst (Begins bool_kind (b ∷ bytes)) p.1 (begins_bool b bytes (ltb-true b 2 p.0))
field_len_begins text_kind bytes n all h =
    option_and_then_some (λ m. cond (nat_le m text_limit && is_utf8 (take m bytes)) (Some (m + 1)) None) (position (λ b. nat_eq b 0) bytes) n h (λ m at g.
    let p = cond_some (nat_le m text_limit && is_utf8 (take m bytes)) (m + 1) n g in
    let q = and_parts (nat_le m text_limit) (is_utf8 (take m bytes)) p.0 in
    subst (Begins text_kind bytes) p.1 (begins_text bytes m at (leb-true m text_limit q.0) q.1))

-- as long as the field is, so long is its piece
pub field_len_piece : (k : Kind) (bytes : List ℕ) (n : ℕ) → field_len k bytes ≡ Some n → n ≡ length (first_piece k bytes)
field_len_piece int_kind bytes n h = by (nat_lt (length bytes) 8) refl h
  where
    by : (v : Bool) → nat_lt (length bytes) 8 ≡ v → cond v None (Some 8) ≡ Some n → n ≡ length (take 8 bytes)
    by true e g = absurd (none-some n g)
    by false e g = sym (same_Some 8 n g) ∙ sym (length-take-le 8 bytes (ltb-false (length bytes) 8 e))
field_len_piece bool_kind [] n h = absurd (none-some n h)
field_len_piece bool_kind (b ∷ bytes) n h = sym (cond_some (nat_lt b 2) 1 n h).1
field_len_piece text_kind bytes n h =
    option_and_then_some (λ m. cond (nat_le m text_limit && is_utf8 (take m bytes)) (Some (m + 1)) None) (position (λ b. nat_eq b 0) bytes) n h (λ m at g.
    let p = cond_some (nat_le m text_limit && is_utf8 (take m bytes)) (m + 1) n g in
    let found = zero_found bytes m at in
    sym p.1 ∙ sym (ap length (through_zero-found bytes m at) ∙ length-take-le (m + 1) bytes (omega (arith, found.1))))
