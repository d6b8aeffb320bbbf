-- What it is to make a production's value of the values of an alternative's parts.
use Rattle.std.proofs.Common.{◌≡◌, ℕ, suc, List, [], ◌∷◌, ◌++◌, append_assoc}
use Rattle.std.specs.List.{flat_map}
use Rattle.hera_syntax.specs.Grammar.{Production, Part}
use Rattle.hera_syntax.specs.Outline.{Entry, node}
use Rattle.hera_readings.proofs.Nodes.{Node, marks_of, Parts, spelled}
use Rattle.hera_readings.proofs.Fits.{Short}

-- a value of the production that has this outline
abbrev pub Made : Production → List Entry → Type 0
Made s ms = (y : Node s) × (marks_of s y ≡ ms)

-- of the parts of each of these alternatives, the first of which has this number, the production's value is made
abbrev pub Makes : Production → ℕ → List (List Part) → Type 0
Makes s k [] = Unit {0}
Makes s k (q ∷ qs) = ((x : Parts q) → Short (spelled (node s k) q x) → Made s (spelled (node s k) q x)) × Makes s (suc k) qs

-- one row more of a list
pub row_more : {A : Type 0} (f : A → List Entry) (x : A) (xs : List A) (end : List Entry) → flat_map f (x ∷ xs) ++ end ≡ f x ++ (flat_map f xs ++ end)
row_more f x xs end = append_assoc (f x) (flat_map f xs) end
