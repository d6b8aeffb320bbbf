-- A quotient by a positive number is rounded down.
use Rattle.std.proofs.Common.{◌≡◌, ℕ, ℤ, pos, negsuc, refl}
use Rattle.std.specs.Int.{int_div_euclid}
use Rattle.hera_meaning.specs.Hosts.{floor_by}

pub floored : (width : ℕ) (v : ℤ) → int_div_euclid v (pos width) ≡ floor_by width v
floored width (pos n) = refl
floored width (negsuc n) = refl
