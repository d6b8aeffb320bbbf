-- Lists that are kept in the other order.
use Rattle.std.specs.Prelude.{List, [], ◌∷◌, ◌++◌}

-- the images of a list's elements, the last one's first
abbrev pub newest : {A B : Type 0} → (A → B) → List A → List B
newest f [] = []
newest f (x ∷ xs) = newest f xs ++ f x ∷ []
