-- Operands by their places.
use Rattle.std.proofs.Common.{◌≡◌, ℕ, zero, suc, true, List, [], ◌∷◌, None, Some, refl, sym, pos}
use Rattle.std.specs.Prelude.{slice_get}
use Rattle.std.proofs.lemmas.Option.{none-some, same_Some}
use Rattle.hera_meaning.specs.Deltas.{fail}
use Rattle.hera_meaning.specs.Values.{Value, int_value, operand, same_value, delta_in}

pub operand_some : (vs : List Value) (i : ℕ) (v : Value) → Some v ≡ slice_get vs i → operand vs i ≡ v
operand_some [] i v e = absurd (none-some v (sym e))
operand_some (x ∷ vs) zero v e = sym (same_Some v x e)
operand_some (x ∷ vs) (suc i) v e = operand_some vs i v e

pub operand_none : (vs : List Value) (i : ℕ) → None ≡ slice_get vs i → operand vs i ≡ int_value (pos 0)
operand_none [] i e = refl
operand_none (x ∷ vs) zero e = absurd (none-some x e)
operand_none (x ∷ vs) (suc i) e = operand_none vs i e

pub ruleset operands = (operand_some, operand_none)

-- without operands both stand past the last
pub both_none : (vs : List Value) → None ≡ slice_get vs 0 → true ≡ same_value (operand vs 0) (operand vs 1)
both_none [] e = refl
both_none (x ∷ vs) e = absurd (none-some x e)

pub ruleset equals = (operand_some, operand_none, both_none)

-- ---- operands taken off at the front

pub front_next : (vs ws : List Value) (v : Value) → vs ≡ v ∷ ws → operand ws 0 ≡ operand vs 1
front_next vs [] v e = rw e refl
front_next vs (w ∷ ws) v e = rw e refl

pub front_first : (vs ws : List Value) (v : Value) → vs ≡ v ∷ ws → operand vs 0 ≡ v
front_first vs ws v e = rw e refl

pub front_none : (vs ws : List Value) → vs ≡ [] → ws ≡ [] → operand ws 0 ≡ operand vs 1
front_none vs ws e f = rw (e, f) refl

pub front_fails : (vs : List Value) → vs ≡ [] → fail ≡ delta_in (operand vs 0)
front_fails vs e = rw e refl

pub ruleset fronts = (front_next, front_first, front_none, front_fails)
