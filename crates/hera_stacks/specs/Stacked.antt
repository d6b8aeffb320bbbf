-- Lists that share their ends: each node has what stands first and the number of the rest.
use Rattle.std.specs.Prelude.{◌≡◌, ℕ, zero, suc, ◌++◌, List, [], ◌∷◌, Option, None, Some, slice_get}
use Rattle.hera_typed.specs.Points.{Seen, Walked}
use Rattle.hera_stacks.specs.declared.stacks.Node.{Node}
use Rattle.hera_stacks.specs.Flat.{flat_kinds, flat_seen}

-- the node of a number; the list without items has the number 0
abbrev pub node_at : List Node → ℕ → Option Node
node_at nodes zero = None
node_at nodes (suc i) = slice_get nodes i

-- the operands of a number, the newest first
abbrev pub AreOperands : List Node → ℕ → List Seen → Type 0
AreOperands nodes id [] = id ≡ 0
AreOperands nodes id (s ∷ ss) = (below : ℕ) × (node_at nodes id ≡ Some (record { seen = flat_seen s; gathers = flat_kinds []; below = below })) × AreOperands nodes below ss

abbrev pub AreWalks : List Node → ℕ → List Walked → Type 0
AreWalks nodes id [] = id ≡ 0
AreWalks nodes id (w ∷ ws) = (below : ℕ) × (node_at nodes id ≡ Some (record { seen = flat_seen w.over; gathers = flat_kinds w.gathers; below = below })) × AreWalks nodes below ws

-- no node stands twice
abbrev pub IsShared : List Node → Type 0
IsShared nodes = (i j : ℕ) (n : Node) → slice_get nodes i ≡ Some n → slice_get nodes j ≡ Some n → i ≡ j

-- nodes stay, others come behind them
abbrev pub Grows : List Node → List Node → Type 0
Grows before after = (more : List Node) × (after ≡ before ++ more)
