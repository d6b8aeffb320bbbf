-- What the fronts of a list print.
use Rattle.std.proofs.Common.{◌≡◌, ℕ, zero, suc, ◌+◌, List, [], ◌∷◌, ◌++◌, Some, take, ap, ◌∙◌, add-one}
use Rattle.std.specs.List.{slice_get, flat_map}
use Rattle.std.proofs.lemmas.Option.{none-some, same_Some}
use Rattle.rel_format.proofs.Printed.{one_more}

take_suc : {A : Type 0} (xs : List A) (i : ℕ) (x : A) → slice_get xs i ≡ Some x → take (suc i) xs ≡ take i xs ++ x ∷ []
take_suc [] i x h = absurd (none-some x h)
take_suc (y ∷ ys) zero x h = ap (λ z. z ∷ []) (same_Some y x h)
take_suc (y ∷ ys) (suc i) x h = ap (λ t. y ∷ t) (take_suc ys i x h)

-- one element more is printed
pub prints_more : {A : Type 0} (f : A → List ℕ) (xs : List A) (i : ℕ) (x : A) → slice_get xs i ≡ Some x → flat_map f (take (i + 1) xs) ≡ flat_map f (take i xs) ++ f x
prints_more f xs i x h = ap (λ n. flat_map f (take n xs)) (add-one i) ∙ ap (flat_map f) (take_suc xs i x h) ∙ one_more f (take i xs) x
