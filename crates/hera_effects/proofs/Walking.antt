-- Walks and layers.
use Rattle.std.proofs.Common.{◌≡◌, ℕ, suc, List, [], ◌∷◌, Option, None, Some, refl, sym, ap, subst, ◌∙◌}
use Rattle.std.proofs.lemmas.Option.{none-some, same_Some}
use Rattle.hera_typed.specs.Points.{Walked, Point}
use Rattle.hera_typed.specs.Effects.{Goal, goes, left_layer}
use Rattle.hera_stacks.specs.declared.stacks.Node.{Node}
use Rattle.hera_effects.specs.declared.spots.Spot.{Spot}
use Rattle.hera_effects.specs.declared.spots.Ways.{Ways}
use Rattle.hera_stacks.specs.Flat.{flat_kinds, flat_seen}
use Rattle.hera_stacks.specs.Stacked.{node_at, AreWalks}
use Rattle.hera_effects.specs.Spots.{IsSpot}
use Rattle.hera_effects.specs.Ways.{Both, AreWays, listed, all_to}

module _ (nodes : List Node) where
  pub none_open : (id : ℕ) (ws : List Walked) → node_at nodes id ≡ None → AreWalks nodes id ws → ws ≡ []
  none_open id [] e h = refl
  none_open id (w ∷ ws) e h = absurd (none-some _ (sym e ∙ h.1))

  pub some_open : (id : ℕ) (n : Node) (ws : List Walked) → node_at nodes id ≡ Some n → AreWalks nodes id ws
      → (w : Walked) × (rest : List Walked) × (ws ≡ w ∷ rest) × (n.seen ≡ flat_seen w.over) × (n.gathers ≡ flat_kinds w.gathers) × AreWalks nodes n.below rest
  some_open id n [] e h = absurd (none-some n (sym (ap (node_at nodes) h) ∙ e))
  some_open id n (w ∷ ws) e h =
      let same : record { seen = flat_seen w.over; gathers = flat_kinds w.gathers; below = h.0 } ≡ n = same_Some _ n (sym h.1 ∙ e) in
      (w, ws, refl, sym (ap (λ (m : Node). m.seen) same), sym (ap (λ (m : Node). m.gathers) same), subst (λ (b : ℕ). AreWalks nodes b ws) (ap (λ (m : Node). m.below) same) h.2)

  -- on to one address
  pub one_way : (w : Ways) (spot : Spot) (next : ℕ) (q : Point) → w.first ≡ Some next → w.second ≡ None → w.point ≡ Some spot → IsSpot nodes spot q → Both (AreWays nodes) (Some w) (goes next q)
  one_way w spot next q first-is second-is point-is h = record {
    point = Some q;
    point_is = subst (λ o. Both (IsSpot nodes) o (Some q)) (sym point-is) h;
    goals = ap (λ ws. all_to ws (Some q)) (sym (λ i. listed (first-is i) (second-is i)));
  }

  pub no_layer : (spot : Spot) (p : Point) (go : Point → Option (List Goal)) → spot.layers ≡ 0 → IsSpot nodes spot p → left_layer p.layers p go ≡ None
  no_layer spot p go e h = ap (λ n. left_layer n p go) (sym h.layers ∙ e)

  pub a_layer : (spot : Spot) (p : Point) (go : Point → Option (List Goal)) (n : ℕ) → spot.layers ≡ suc n → IsSpot nodes spot p → left_layer p.layers p go ≡ go (record p { layers = n })
  a_layer spot p go n e h = ap (λ m. left_layer m p go) (sym h.layers ∙ e)
