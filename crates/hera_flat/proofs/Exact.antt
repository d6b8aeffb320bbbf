-- Ints in range.
use Rattle.std.proofs.Common.{◌≡◌, ◌^◌, ◌<◌, Bool, true, false, refl, sym, ap, ◌∙◌, arith, ℤ, pos, negsuc, None, Some}
use Rattle.std.specs.Prelude.{cond, nat_lt, FitsSigned}
use Rattle.std.specs.Int.{w64}
use Rattle.std.proofs.lemmas.Bool.{ltb-true, lt-ltb}
use Rattle.hera_meaning.specs.declared.trees.TrapName.TheVariants.{Overflow}
use Rattle.hera_meaning.specs.Scalars.{fits_int}
use Rattle.hera_meaning.specs.Values.{int_value}
use Rattle.hera_meaning.specs.Primitives.{gives, refuses, in_range}
use Rattle.hera_flat.specs.declared.flat.Flat.TheVariants.{Int}
use Rattle.hera_flat.specs.Flats.{flat_in}

fits_true : (z : ℤ) → FitsSigned w64 z → fits_int z ≡ true
fits_true (pos n) h = lt-ltb n (2 ^ 63) h.sfits
fits_true (negsuc n) h = let le = h.sfits in lt-ltb n (2 ^ 63) (omega (arith, le))

fits_false : (z : ℤ) → ¬ (FitsSigned w64 z) → fits_int z ≡ false
fits_false (pos n) h = by (nat_lt n (2 ^ 63)) refl
  where
    by : (b : Bool) → nat_lt n (2 ^ 63) ≡ b → nat_lt n (2 ^ 63) ≡ false
    by true e = absurd (h (record { sfits = ltb-true n (2 ^ 63) e }))
    by false e = e
fits_false (negsuc n) h = by (nat_lt n (2 ^ 63)) refl
  where
    by : (b : Bool) → nat_lt n (2 ^ 63) ≡ b → nat_lt n (2 ^ 63) ≡ false
    by true e = let lt : n < 2 ^ 63 = ltb-true n (2 ^ 63) e in absurd (h (record { sfits = omega (arith, lt) }))
    by false e = e

pub exact_some : (z v : ℤ) → FitsSigned w64 z → v ≡ z → flat_in (in_range z) ≡ Some (Int v)
exact_some z v h e = ap (λ b. flat_in (cond b (gives (int_value z)) (refuses Overflow))) (fits_true z h) ∙ ap (λ x. Some (Int x)) (sym e)

pub exact_none : (z : ℤ) → ¬ (FitsSigned w64 z) → flat_in (in_range z) ≡ None
exact_none z h = ap (λ b. flat_in (cond b (gives (int_value z)) (refuses Overflow))) (fits_false z h)

pub ruleset exact = (exact_some, exact_none)
