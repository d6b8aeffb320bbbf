-- Operands that are taken off a stack one by one.
use Rattle.std.proofs.Common.{◌≡◌, ℕ, suc, ◌+◌, ◌-◌, ◌<◌, List, ◌∷◌, ap, arith}
use Rattle.hera_meaning.specs.Values.{Value}
use Rattle.hera_code.specs.Machine.{taken}

pub taken_next : (n i : ℕ) (args : List Value) (v : Value) (vs : List Value) → i < n → taken (n - i) args (v ∷ vs) ≡ taken (n - (i + 1)) (v ∷ args) vs
taken_next n i args v vs h =
    let e : n - i ≡ suc (n - (i + 1)) = omega arith in
    ap (λ k. taken k args (v ∷ vs)) e
