-- Names that stand before, one name at a time.
use Rattle.std.proofs.Common.{◌≡◌, ℕ, ◌+◌, ◌<◌, List, [], ◌∷◌, ◌++◌, length, get_or, take, map, sym, ap, ◌∙◌}
use Rattle.std.specs.Prelude.{◌||◌}
use Rattle.std.proofs.lemmas.List.{take_more, map-append}
use Rattle.std.proofs.lemmas.List.Folds.{list_any-append}
use Rattle.hera_sets.specs.Rows.{is_same, holds}

pub take_at : {A : Type 0} (xs : List A) (i : ℕ) (x : A) → i < length xs → x ≡ get_or xs i x → take (i + 1) xs ≡ take i xs ++ x ∷ []
take_at xs i x h e = take_more xs i x h ∙ ap (λ y. take i xs ++ y ∷ []) (sym e)

-- the first of these, told by what they are made of
pub mapped_at : {A B : Type 0} (f : A → B) (xs : List A) (i : ℕ) (x : A) → i < length xs → x ≡ get_or xs i x → map f (take (i + 1) xs) ≡ map f (take i xs) ++ f x ∷ []
mapped_at f xs i x h e = ap (map f) (take_at xs i x h e) ∙ map-append f (take i xs) (x ∷ [])

-- a name stands among those of two lists
pub holds-append : (a b : List (List ℕ)) (n : List ℕ) → holds (a ++ b) n ≡ (holds a n || holds b n)
holds-append a b n = list_any-append (is_same n) a b
