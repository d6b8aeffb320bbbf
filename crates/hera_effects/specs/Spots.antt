-- What is known of a machine at an address, over lists that share their ends.
use Rattle.std.specs.Prelude.{◌≡◌, List}
use Rattle.hera_typed.specs.Points.{Point}
use Rattle.hera_stacks.specs.declared.stacks.Node.{Node}
use Rattle.hera_stacks.specs.Stacked.{AreOperands, AreWalks}
use Rattle.hera_effects.specs.declared.spots.Spot.{Spot}

-- the numbers are those of the point's operands and walks
pub record IsSpot (nodes : List Node) (spot : Spot) (p : Point) : Type 0 where
  pub operands : AreOperands nodes spot.operands p.operands
  pub walks : AreWalks nodes spot.walks p.walks
  pub layers : spot.layers ≡ p.layers
