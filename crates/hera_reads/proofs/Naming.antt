-- The rows of a relation that is named.
use Rattle.std.proofs.Common.{◌≡◌, ℕ, zero, suc, ◌<◌, ◌≤◌, List, [], ◌∷◌, length, Some, refl, ◌∙◌, arith}
use Rattle.std.specs.Prelude.{slice_get}
use Rattle.std.proofs.lemmas.Option.{none-some, same_Some}
use Rattle.hera_sets.specs.Rows.{Row}
use Rattle.hera_meaning.specs.Deltas.{Delta, State, rows_at, apply_of}
use Rattle.hera_code.specs.Machine.{after_layers}
use Rattle.when_overlay.specs.Changed.{after_all}
use Rattle.when_overlay.proofs.Viewing.{length_changed, length_after}

pub rows_got : (t : State) (r : ℕ) (rows : List Row) → slice_get t r ≡ Some rows → rows_at t r ≡ rows
rows_got [] r rows e = absurd (none-some rows e)
rows_got (xs ∷ t) zero rows e = same_Some xs rows e
rows_got (xs ∷ t) (suc r) rows e = rows_got t r rows e

pub rows_there : (t : State) (r : ℕ) → r < length t → slice_get t r ≡ Some (rows_at t r)
rows_there [] r h = absurd (omega (arith, h))
rows_there (rows ∷ t) zero h = refl
rows_there (rows ∷ t) (suc r) h = rows_there t r (omega (arith, h))

pub rows_none : (t : State) (r : ℕ) → length t ≤ r → rows_at t r ≡ []
rows_none [] r h = refl
rows_none (rows ∷ t) zero h = absurd (omega (arith, h))
rows_none (rows ∷ t) (suc r) h = rows_none t r (omega (arith, h))

layers-length : (s : State) (ls : List Delta) → length (after_layers s ls) ≡ length s
layers-length s [] = refl
layers-length s (d ∷ ls) = length_changed (after_layers s ls) d ∙ layers-length s ls

-- no delta changes the number of relations
pub read-length : (s : State) (ds : List Delta) (p : Delta) (ls : List Delta) → length (after_layers (apply_of (after_all s ds) p) ls) ≡ length s
read-length s ds p ls = layers-length (apply_of (after_all s ds) p) ls ∙ length_changed (after_all s ds) p ∙ length_after s ds
