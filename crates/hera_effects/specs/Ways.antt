-- Ways on from an instruction, over lists that share their ends.
use Rattle.std.specs.Prelude.{◌≡◌, ℕ, List, [], ◌∷◌, map, Option, Some, None}
use Rattle.hera_typed.specs.Points.{Point}
use Rattle.hera_typed.specs.Effects.{Goal}
use Rattle.hera_stacks.specs.declared.stacks.Node.{Node}
use Rattle.hera_effects.specs.declared.spots.Ways.{Ways}
use Rattle.hera_effects.specs.Spots.{IsSpot}

-- both are there and stand so, or neither is there
abbrev pub Both : {A B : Type 0} → (A → B → Type 0) → Option A → Option B → Type 0
Both R None None = Unit {0}
Both R (Some a) (Some b) = R a b
Both R _ _ = ⊥

abbrev pub listed : Option ℕ → Option ℕ → List ℕ
listed None None = []
listed None (Some b) = b ∷ []
listed (Some a) None = a ∷ []
listed (Some a) (Some b) = a ∷ b ∷ []

-- to these addresses with one point
abbrev pub all_to : List ℕ → Option Point → List Goal
all_to ways p = map (λ b. record { to = b; point = p }) ways

-- to two addresses at most, with one point, where one will do
pub record AreWays (nodes : List Node) (w : Ways) (gs : List Goal) : Type 0 where
  pub point : Option Point
  pub point_is : Both (IsSpot nodes) w.point point
  pub goals : gs ≡ all_to (listed w.first w.second) point
