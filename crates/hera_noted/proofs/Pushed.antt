-- A list with an item more, of which each item has what is asked of its place.
use Rattle.std.proofs.Common.{◌≡◌, ℕ, zero, suc, List, [], ◌∷◌, ◌++◌, length, Some, subst}
use Rattle.std.specs.Prelude.{slice_get}
use Rattle.hera_typed.proofs.Asking.{some_is, none_is}

pub pushed : {A : Type 0} (P : ℕ → A → Type 0) (xs : List A) (x : A) → ((j : ℕ) (m : A) → slice_get xs j ≡ Some m → P j m) → P (length xs) x → (j : ℕ) (m : A) → slice_get (xs ++ x ∷ []) j ≡ Some m → P j m
pushed P [] x h p zero m e = subst (λ a. P 0 a) (some_is x m e) p
pushed P [] x h p (suc j) m e = none_is (P (suc j) m) m e
pushed P (y ∷ xs) x h p zero m e = h 0 m e
pushed P (y ∷ xs) x h p (suc j) m e = pushed (λ i a. P (suc i) a) xs x (λ i a r. h (suc i) a r) p j m e
