-- Layers of deltas, in each list the newest first. A layer's number is how many stand behind it.
use Rattle.std.specs.Prelude.{◌≡◌, ◌<◌, ℕ, false, cond, List, [], ◌∷◌, ◌++◌, Option, None, Some, length, nat_eq, IfSome}
use Rattle.std.specs.Option.{option_map}
use Rattle.hera_meaning.specs.Deltas.{Delta, is_fail}
use Rattle.when_overlay.specs.declared.layers.Layer.{Layer}

-- what contracts see of layers: the layers, and how many further ones have their place
pub record Pile : Type 0 where
  pub layers : List Layer
  pub spare : ℕ

-- a list in the other order
abbrev pub newest_first : List Layer → List Layer
newest_first [] = []
newest_first (l ∷ ls) = newest_first ls ++ l ∷ []

-- no delta is `fail`, and each layer's parent is an earlier one
abbrev pub AreLayers : List Layer → Type 0
AreLayers [] = Unit {0}
AreLayers (l ∷ ls) = (is_fail l.delta ≡ false) × IfSome l.parent (λ i. i < length ls) × AreLayers ls

-- the layer of a number
abbrev pub layer_at : List Layer → ℕ → Option Layer
layer_at [] i = None
layer_at (l ∷ ls) i = cond (nat_eq i (length ls)) (Some l) (layer_at ls i)

abbrev pub delta_at : List Layer → ℕ → Option Delta
delta_at ls i = option_map (λ l. l.delta) (layer_at ls i)

-- the layers with another delta in the place of one's
abbrev pub with_delta : List Layer → ℕ → Delta → List Layer
with_delta [] i d = []
with_delta (l ∷ ls) i d = cond (nat_eq i (length ls)) (record { parent = l.parent; delta = d } ∷ ls) (l ∷ with_delta ls i d)

-- the tip is one of the layers, or none
abbrev pub IsTip : List Layer → Option ℕ → Type 0
IsTip ls tip = IfSome tip (λ i. i < length ls)

-- the deltas from the root to the tip: the tip's stands behind those of its parent
abbrev pub path : List Layer → Option ℕ → List Delta
path [] tip = []
path (l ∷ ls) None = []
path (l ∷ ls) (Some i) = cond (nat_eq i (length ls)) (path ls l.parent ++ l.delta ∷ []) (path ls (Some i))
