-- A relation of a changed state is the relation changed.
use Rattle.std.proofs.Common.{◌≡◌, ℕ, zero, suc, ◌+◌, List, [], ◌∷◌, length, Some, refl, ap, ◌∙◌, arith}
use Rattle.std.specs.Prelude.{slice_get}
use Rattle.std.specs.Option.{option_map}
use Rattle.hera_sets.specs.Rows.{Row}
use Rattle.hera_meaning.specs.Deltas.{Atom, Delta, fail, atoms, State, apply_of, apply_from, apply_to}
use Rattle.when_overlay.specs.Changed.{after_all, changed, rows_after}

at_from : (k r : ℕ) (s : State) (xs : List Atom) → slice_get (apply_from k s xs) r ≡ option_map (λ rows. apply_to (k + r) rows xs) (slice_get s r)
at_from k r [] xs = refl
at_from k zero (rows ∷ s) xs = let e : k ≡ k + 0 = omega arith in ap (λ j. Some (apply_to j rows xs)) e
at_from k (suc r) (rows ∷ s) xs =
    let e : suc k + r ≡ k + suc r = omega arith in
    at_from (suc k) r s xs ∙ ap (λ j. option_map (λ rows. apply_to j rows xs) (slice_get s r)) e

pub rel_changed : (r : ℕ) (s : State) (d : Delta) (rows : List Row) → slice_get s r ≡ Some rows → slice_get (apply_of s d) r ≡ Some (changed r rows d)
rel_changed r s fail rows e = e
rel_changed r s (atoms xs) rows e =
    let same : 0 + r ≡ r = omega arith in
    at_from 0 r s xs ∙ ap (λ o. option_map (λ rows. apply_to (0 + r) rows xs) o) e ∙ ap (λ j. Some (apply_to j rows xs)) same

pub rel_after : (r : ℕ) (s : State) (ds : List Delta) (rows : List Row) → slice_get s r ≡ Some rows → slice_get (after_all s ds) r ≡ Some (rows_after r rows ds)
rel_after r s [] rows e = e
rel_after r s (d ∷ ds) rows e = rel_after r (apply_of s d) ds (changed r rows d) (rel_changed r s d rows e)

-- a delta changes no number of relations
length_from : (k : ℕ) (s : State) (xs : List Atom) → length (apply_from k s xs) ≡ length s
length_from k [] xs = refl
length_from k (rows ∷ s) xs = ap suc (length_from (suc k) s xs)

pub length_changed : (s : State) (d : Delta) → length (apply_of s d) ≡ length s
length_changed s fail = refl
length_changed s (atoms xs) = length_from 0 s xs

pub length_after : (s : State) (ds : List Delta) → length (after_all s ds) ≡ length s
length_after s [] = refl
length_after s (d ∷ ds) = length_after (apply_of s d) ds ∙ length_changed s d
