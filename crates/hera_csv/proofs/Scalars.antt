-- Texts of ints, and texts that are none.
use Rattle.std.proofs.Common.{◌≡◌, ◌≤◌, ◌<◌, ◌^◌, ℕ, zero, suc, Bool, true, false, cond, ◌&&◌, List, [], ◌∷◌, drop, length, get_or, Option, Some, None, Err, refl, sym, ap, ◌∙◌, arith, rules, inl, inr, w64}
use Rattle.std.specs.Prelude.{◌≢◌, pos, neg_ℤ, nat_lt, slice_index, slice_index_or, Contains, IsUtf8, ◌==◌}
use Rattle.std.specs.List.{list_all}
use Rattle.std.specs.Char.{is_ascii_digit}
use Rattle.std.specs.Str.Parse.{digits_value, starts_with_minus, ParsesSigned}
use Rattle.std.proofs.lemmas.Str.{IsUtf8-from_ascii, IsUtf8-from_is_utf8}
use Rattle.std.proofs.lemmas.Str.Parse.{IsNumeralModel, numerals_by_value, parse_signed_minus, parse_signed_plain}
use Rattle.std.proofs.lemmas.Bool.{cases_Bool, false≢true, and_parts, ltb-true, eqb-true}
use Rattle.std.proofs.lemmas.Bool.Decides.{nat_tests}
use Rattle.std.proofs.lemmas.List.Sums.{AllPass-from_list_all}
use Rattle.hera_meaning.specs.declared.scalars.Scalar.{Scalar}
use Rattle.hera_meaning.specs.declared.scalars.Scalar.TheVariants.{Int as int_scalar}
use Rattle.hera_meaning.specs.Scalars.{fits_int}
use Rattle.hera_meaning.specs.Texts.{is_text}
use Rattle.hera_meaning.specs.TextFaults.{IsTextFault}
use Rattle.hera_meaning.specs.declared.scalars.TextFault.{TextFault}
use Rattle.hera_meaning.specs.declared.scalars.TextFault.TheVariants.{BadUtf8, HasZero, TooLong, Memory}
use Rattle.hera_row.proofs.FieldLemmas.{TextTests, text_tests}
use Rattle.hera_csv.specs.Fields.{behind_minus, are_digits, number_of, int_read}

pub own : IsNumeralModel (λ ds. list_all is_ascii_digit ds ≡ true) (digits_value 10)
own = numerals_by_value _ (search rules)

digits_ascii : (ds : List ℕ) → list_all is_ascii_digit ds ≡ true → (i : ℕ) → slice_index ds i < 128
digits_ascii [] h i = omega arith
digits_ascii (d ∷ ds) h zero = grind (arith, nat_tests)
digits_ascii (d ∷ ds) h (suc i) = digits_ascii ds (and_parts (is_ascii_digit d) (list_all is_ascii_digit ds) h).1 i

digits_in : (bytes : List ℕ) → are_digits (behind_minus bytes) ≡ true → (i : ℕ) → slice_index bytes i < 128
digits_in [] h i = omega arith
digits_in (b ∷ bytes) h i = by i (b == 45) refl h
  where
    by : (i : ℕ) (c : Bool) → (b == 45) ≡ c → are_digits (cond c bytes (b ∷ bytes)) ≡ true → slice_index (b ∷ bytes) i < 128
    by zero true e g = omega (arith, eqb-true b 45 e)
    by (suc i) true e g = digits_ascii bytes (and_parts (nat_lt 0 (length bytes)) (list_all is_ascii_digit bytes) g).1 i
    by i false e g = digits_ascii (b ∷ bytes) (and_parts (nat_lt 0 (length (b ∷ bytes))) (list_all is_ascii_digit (b ∷ bytes)) g).1 i

pub digits_utf8 : (bytes : List ℕ) → are_digits (behind_minus bytes) ≡ true → IsUtf8 bytes
digits_utf8 bytes h = IsUtf8-from_ascii bytes (digits_in bytes h)

low_fits : (n : ℕ) → fits_int (neg_ℤ (pos n)) ≡ true → n ≤ 2 ^ 63
low_fits zero h = omega arith
low_fits (suc n) h = let lt = ltb-true n (2 ^ 63) h in omega (arith, lt)

high_fits : (n : ℕ) → fits_int (pos n) ≡ true → n < 2 ^ 63
high_fits n h = ltb-true n (2 ^ 63) h

no_plus : (bytes : List ℕ) → are_digits bytes ≡ true → get_or bytes 0 0 ≢ 43
no_plus [] h = λ e. cc
no_plus (b ∷ bytes) h = λ e. grind (arith, nat_tests)

refused : {A : Type 0} (b f : Bool) (s : A) → b ≡ true → f ≡ false → ◌≡◌ {A = Option A} None (cond (b && f) (Some s) None)
refused b f s t e = rw (t, e) refl

pub int_refused : {E : Type 0} (bytes : List ℕ) (e : E) → ParsesSigned w64 10 bytes (Err e) → are_digits (behind_minus bytes) ≡ true → ◌≡◌ {A = Option Scalar} None (int_read bytes)
int_refused bytes e h digits = elim (cases_Bool (fits_int (number_of bytes))) [
  | inr small ↦ refused (are_digits (behind_minus bytes)) (fits_int (number_of bytes)) (int_scalar (number_of bytes)) digits small
  | inl fits ↦ elim (cases_Bool (starts_with_minus bytes)) [
    | inl is ↦
        let p = and_parts (nat_lt 0 (length (drop 1 bytes))) (list_all is_ascii_digit (drop 1 bytes)) (rw is at digits) in
        let bad = parse_signed_minus own w64 bytes (Err e) h (eqb-true (slice_index bytes 0) 45 is) in
        absurd (bad (p.1, ltb-true 0 (length (drop 1 bytes)) p.0, low_fits (digits_value 10 (drop 1 bytes)) (rw is at fits)))
    | inr plain ↦
        let ds : are_digits bytes ≡ true = rw plain at digits in
        let p = and_parts (nat_lt 0 (length bytes)) (list_all is_ascii_digit bytes) ds in
        let bad = parse_signed_plain own w64 bytes (Err e) h (no_plus bytes ds) (λ m. false≢true (sym plain ∙ ap (λ n. n == 45) m)) in
        absurd (bad (p.1, ltb-true 0 (length bytes) p.0, high_fits (digits_value 10 bytes) (rw plain at fits)))
  ]
]

-- ---- texts

nonzero : (t : List ℕ) → list_all (λ b. nat_lt 0 b) t ≡ true → Contains t 0 → ⊥
nonzero t h c =
    let lt : 0 < slice_index_or t c.0 0 = ltb-true 0 (slice_index_or t c.0 0) (AllPass-from_list_all (λ b. nat_lt 0 b) t h c.0 0 c.1) in
    omega (arith, lt, c.2)

pub no_text : (t : List ℕ) (e : TextFault) → e ≢ Memory → IsTextFault t e → is_text t ≡ false
no_text t e other h = elim (cases_Bool (is_text t)) [
  | inr other_way ↦ other_way
  | inl is ↦ absurd (by e other h (text_tests t is))
]
  where
    by : (e : TextFault) → e ≢ Memory → IsTextFault t e → TextTests t → ⊥
    by BadUtf8 other h tests = h (IsUtf8-from_is_utf8 t tests.utf8)
    by HasZero other h tests = nonzero t tests.nonzero h.1
    by TooLong other h tests = omega (arith, h.2, tests.short)
    by Memory other h tests = other refl
