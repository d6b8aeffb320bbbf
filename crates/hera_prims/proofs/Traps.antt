-- What is given of ints, by whether that is an int or nothing.
use Rattle.std.proofs.Common.{◌≡◌, Bool, true, false, cond, ℤ, pos, None, Some, refl, sym, ap, ◌∙◌}
use Rattle.std.specs.Ordering.{int_eq}
use Rattle.std.proofs.lemmas.Option.{none-some, same_Some}
use Rattle.hera_meaning.specs.declared.trees.TrapName.{TrapName}
use Rattle.hera_meaning.specs.declared.trees.TrapName.TheVariants.{DivZero, Overflow}
use Rattle.hera_meaning.specs.Scalars.{fits_int}
use Rattle.hera_meaning.specs.Values.{int_value}
use Rattle.hera_meaning.specs.Primitives.{Answer, gives, refuses, in_range, divided, is_least_by_minus_one}
use Rattle.hera_flat.specs.declared.flat.Flat.{Flat}
use Rattle.hera_flat.specs.declared.flat.Flat.TheVariants.{Int}
use Rattle.hera_flat.specs.Flats.{flat_value, flat_in}
use Rattle.hera_prims.specs.Answered.{division_trap}

int_given : (a : Answer) (n : ℤ) (f : Flat) → a ≡ gives (int_value n) → Some f ≡ flat_in a → a ≡ gives (flat_value f)
int_given a n f is e = is ∙ ap (λ x. gives (flat_value x)) (sym (same_Some f (Int n) (e ∙ ap flat_in is)))

some_trap : (a : Answer) (name : TrapName) (f : Flat) → a ≡ refuses name → Some f ≡ flat_in a → a ≡ gives (flat_value f)
some_trap a name f is e = absurd (none-some f (sym (e ∙ ap flat_in is)))

none_given : (a b : Answer) (n : ℤ) → a ≡ gives (int_value n) → None ≡ flat_in a → a ≡ b
none_given a b n is e = absurd (none-some (Int n) (e ∙ ap flat_in is))

abbrev ranged : ℤ → Bool → Answer
ranged z b = cond b (gives (int_value z)) (refuses Overflow)

pub ranged_some : (z : ℤ) (f : Flat) → Some f ≡ flat_in (in_range z) → in_range z ≡ gives (flat_value f)
ranged_some z f e = by (fits_int z) refl
  where
    by : (b : Bool) → fits_int z ≡ b → in_range z ≡ gives (flat_value f)
    by true h = int_given (in_range z) z f (ap (ranged z) h) e
    by false h = some_trap (in_range z) Overflow f (ap (ranged z) h) e

pub ranged_none : (z : ℤ) → None ≡ flat_in (in_range z) → in_range z ≡ refuses Overflow
ranged_none z e = by (fits_int z) refl
  where
    by : (b : Bool) → fits_int z ≡ b → in_range z ≡ refuses Overflow
    by true h = none_given (in_range z) (refuses Overflow) z (ap (ranged z) h) e
    by false h = ap (ranged z) h

abbrev quotient : (ℤ → ℤ → ℤ) → ℤ → ℤ → Bool → Bool → Answer
quotient f a b c d = cond c (refuses DivZero) (cond d (refuses Overflow) (gives (int_value (f a b))))

pub divided_some : (f : ℤ → ℤ → ℤ) (a b : ℤ) (v : Flat) → Some v ≡ flat_in (divided f a b) → divided f a b ≡ gives (flat_value v)
divided_some f a b v e = by (int_eq b (pos 0)) refl (is_least_by_minus_one a b) refl
  where
    by : (c : Bool) → int_eq b (pos 0) ≡ c → (d : Bool) → is_least_by_minus_one a b ≡ d → divided f a b ≡ gives (flat_value v)
    by true h d g = some_trap (divided f a b) DivZero v (ap (λ c. quotient f a b c (is_least_by_minus_one a b)) h) e
    by false h true g = some_trap (divided f a b) Overflow v (ap (λ c. quotient f a b c (is_least_by_minus_one a b)) h ∙ ap (quotient f a b false) g) e
    by false h false g = int_given (divided f a b) (f a b) v (ap (λ c. quotient f a b c (is_least_by_minus_one a b)) h ∙ ap (quotient f a b false) g) e

pub divided_none : (f : ℤ → ℤ → ℤ) (a b : ℤ) → None ≡ flat_in (divided f a b) → divided f a b ≡ refuses (division_trap b)
divided_none f a b e = by (int_eq b (pos 0)) refl (is_least_by_minus_one a b) refl
  where
    by : (c : Bool) → int_eq b (pos 0) ≡ c → (d : Bool) → is_least_by_minus_one a b ≡ d → divided f a b ≡ refuses (division_trap b)
    by true h d g = ap (λ c. quotient f a b c (is_least_by_minus_one a b)) h ∙ ap (λ c. refuses (cond c DivZero Overflow)) (sym h)
    by false h true g = ap (λ c. quotient f a b c (is_least_by_minus_one a b)) h ∙ ap (quotient f a b false) g ∙ ap (λ c. refuses (cond c DivZero Overflow)) (sym h)
    by false h false g = none_given (divided f a b) (refuses (division_trap b)) (f a b) (ap (λ c. quotient f a b c (is_least_by_minus_one a b)) h ∙ ap (quotient f a b false) g) e

pub ruleset traps = (ranged_some, ranged_none, divided_some, divided_none)
