-- Spots stay when lists come, and are of one point each.
use Rattle.std.proofs.Common.{◌≡◌, List, sym, ◌∙◌}
use Rattle.hera_typed.specs.Points.{Point}
use Rattle.hera_stacks.specs.declared.stacks.Node.{Node}
use Rattle.hera_stacks.specs.Stacked.{IsShared, Grows}
use Rattle.hera_stacks.proofs.Stacking.{operands_grow, walks_grow, operands_same, walks_same, operands_one, walks_one}
use Rattle.hera_effects.specs.declared.spots.Spot.{Spot}
use Rattle.hera_effects.specs.Spots.{IsSpot}

pub spot_grows : (a b : List Node) (spot : Spot) (p : Point) → Grows a b → IsSpot a spot p → IsSpot b spot p
spot_grows a b spot p h e = record { operands = operands_grow a b p.operands spot.operands h e.operands; walks = walks_grow a b p.walks spot.walks h e.walks; layers = e.layers }

-- one spot is of one point, and one point has one spot
pub spot_one : (nodes : List Node) (spot : Spot) (p q : Point) → IsSpot nodes spot p → IsSpot nodes spot q → p ≡ q
spot_one nodes spot p q h g =
    let operands = operands_one nodes p.operands q.operands spot.operands h.operands g.operands in
    let walks = walks_one nodes p.walks q.walks spot.walks h.walks g.walks in
    let layers = sym h.layers ∙ g.layers in
    (λ i. record { operands = operands i; walks = walks i; layers = layers i })

pub spots_same : (nodes : List Node) (a b : Spot) (p : Point) → IsShared nodes → IsSpot nodes a p → IsSpot nodes b p → a ≡ b
spots_same nodes a b p shared h g =
    let operands = operands_same nodes p.operands a.operands b.operands shared h.operands g.operands in
    let walks = walks_same nodes p.walks a.walks b.walks shared h.walks g.walks in
    let layers = h.layers ∙ sym g.layers in
    (λ i. record { operands = operands i; walks = walks i; layers = layers i })
