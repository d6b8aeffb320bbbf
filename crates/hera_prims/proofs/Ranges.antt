-- Counts in range.
use Rattle.std.proofs.Common.{◌≡◌, ℕ, ◌^◌, ◌<◌, ◌≤◌, Bool, true, false, refl, ap, arith, pos}
use Rattle.std.specs.Prelude.{cond, nat_lt}
use Rattle.std.proofs.lemmas.Bool.{ltb-true, lt-ltb}
use Rattle.hera_meaning.specs.declared.trees.TrapName.TheVariants.{Overflow}
use Rattle.hera_meaning.specs.Values.{int_value}
use Rattle.hera_meaning.specs.Primitives.{gives, refuses, in_range}

pub count_few : (n : ℕ) → n < 2 ^ 63 → in_range (pos n) ≡ gives (int_value (pos n))
count_few n h = ap (λ b. cond b (gives (int_value (pos n))) (refuses Overflow)) (lt-ltb n (2 ^ 63) h)

pub count_many : (n : ℕ) → 2 ^ 63 ≤ n → in_range (pos n) ≡ refuses Overflow
count_many n h = by (nat_lt n (2 ^ 63)) refl
  where
    by : (b : Bool) → nat_lt n (2 ^ 63) ≡ b → in_range (pos n) ≡ refuses Overflow
    by true e = let lt : n < 2 ^ 63 = ltb-true n (2 ^ 63) e in absurd (omega (arith, lt, h))
    by false e = ap (λ b. cond b (gives (int_value (pos n))) (refuses Overflow)) e

pub ruleset ranges = (count_few, count_many)
