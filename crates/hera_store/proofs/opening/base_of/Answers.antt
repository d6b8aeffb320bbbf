use Rattle.std.proofs.Common.{◌≡◌, ℕ, sym, subst}
use Rattle.hera_store.specs.Databases.{IsDamagedHalf}
use Rattle.hera_store.proofs.Smashes.{half_is_damaged}
use Rattle.hera_store.proofs.opening.base_of.Goals as goal

pub returns-in-Err-Damaged-clause-damaged : goal.returns-in-Err-Damaged-clause-damaged
returns-in-Err-Damaged-clause-damaged c = λ file at e.
    let half : c.args.half ≡ file = cc in
    let place : c.in-Err-Damaged.at ≡ at = cc in
    (sym half, subst (λ (n : ℕ). IsDamagedHalf c.args.bytes.items n) place (half_is_damaged c.args.bytes.items c.in-Err-Damaged.at (rw c.in-Err-Damaged.field-0-is at c.in-Err-Damaged.ensures)))
