-- Layers as a tree over the pending delta. In each list of layers the newest stands first, and a layer's
-- number is how many stand behind it.
use Rattle.std.specs.Prelude.{◌≡◌, ◌≢◌, ◌-◌, ℕ, true, cond, List, [], ◌∷◌, Option, None, Some, drop, length, nat_eq}
use Rattle.hera_meaning.specs.declared.schemas.RelDecl.{RelDecl}
use Rattle.hera_meaning.specs.Deltas.{Delta, State, atoms, apply_of}
use Rattle.hera_meaning.specs.Fits.{is_delta_of}
use Rattle.hera_code.specs.Machine.{after_layers}
use Rattle.when_overlay.specs.declared.layers.Layer.{Layer}

-- the relations that the layers may name, the layers, and the number of the one under which the running frame
-- reads
pub record Branches : Type 0 where
  pub catalogue : List RelDecl
  pub layers : List Layer
  pub tip : ℕ

-- the oldest layer stands upon none, and each other one upon another
abbrev pub IsTree : List Layer → Type 0
IsTree [] = ⊥
IsTree (l ∷ []) = l.parent ≡ None
IsTree (l ∷ k ∷ ls) = (l.parent ≢ None) × IsTree (k ∷ ls)

-- each atom of each layer names a relation of the catalogue and holds a row of it
abbrev pub AreKnown : List RelDecl → List Layer → Type 0
AreKnown rels [] = Unit {0}
AreKnown rels (l ∷ ls) = (is_delta_of rels l.delta ≡ true) × AreKnown rels ls

-- the oldest delta, which is the pending one
abbrev pub pending_of : List Layer → Delta
pending_of [] = atoms []
pending_of (l ∷ []) = l.delta
pending_of (l ∷ k ∷ ls) = pending_of (k ∷ ls)

-- a delta upon those that are found from its parent on; the pending delta has no parent, and isn't counted
abbrev pub upon : Delta → Option ℕ → (ℕ → List Delta) → List Delta
upon d None below = []
upon d (Some i) below = d ∷ below i

-- the deltas from a layer down to the pending one, which is left out; the newest first
abbrev pub under : List Layer → ℕ → List Delta
under [] k = []
under (l ∷ ls) k = cond (nat_eq k (length ls)) (upon l.delta l.parent (λ i. under ls i)) (under ls k)

-- the committed state after the pending delta, and then after the layers up to this one
abbrev pub seen_at : State → List Layer → ℕ → State
seen_at s ls k = after_layers (apply_of s (pending_of ls)) (under ls k)

-- so many of the layers, the oldest ones
abbrev pub lowest : {A : Type 0} → ℕ → List A → List A
lowest n ls = drop (length ls - n) ls

-- the number of a layer's parent; the pending delta counts as its own
abbrev pub number_of : Option ℕ → ℕ
number_of None = 0
number_of (Some i) = i

abbrev pub parents_of : List Layer → List ℕ
parents_of [] = []
parents_of (l ∷ ls) = number_of l.parent ∷ parents_of ls
