-- Walks, layers and pushed operands, over lists that grow.
use Rattle.std.proofs.Common.{◌≡◌, ℕ, suc, ◌+◌, Bool, true, false, List, [], ◌∷◌, Option, None, Some, refl, sym, ap, ◌∙◌, arith}
use Rattle.std.specs.Prelude.{Result, IfOk}
use Rattle.std.specs.Option.{option_map}
use Rattle.std.proofs.lemmas.Option.{none-some, same_Some}
use Rattle.std.proofs.lemmas.Result.{IfOk-weaker}
use Rattle.hera_meaning.specs.declared.scalars.Kind.{Kind}
use Rattle.hera_meaning.specs.Forms.{Form, of_tuple, of_table, of_delta, bool_form}
use Rattle.hera_typed.specs.Points.{Seen, known, Point, when, first, agrees}
use Rattle.hera_typed.specs.Effects.{goes, takes_one, with_operands, pushed_result, is_relation, opened, opened_point}
use Rattle.hera_stacks.specs.declared.forms.FlatForm.{FlatForm}
use Rattle.hera_stacks.specs.declared.forms.FlatForm.TheVariants as flat
use Rattle.hera_stacks.specs.declared.forms.FlatSeen.{FlatSeen}
use Rattle.hera_stacks.specs.declared.forms.FlatSeen.TheVariants as flat_seens
use Rattle.hera_stacks.specs.declared.stacks.Node.{Node}
use Rattle.hera_effects.specs.declared.spots.Spot.{Spot}
use Rattle.hera_effects.specs.declared.spots.Ways.{Ways}
use Rattle.hera_stacks.specs.Flat.{flat_kinds, flat_form, flat_seen}
use Rattle.hera_stacks.specs.Stacked.{node_at, AreOperands, Grows}
use Rattle.hera_effects.specs.Spots.{IsSpot}
use Rattle.hera_effects.specs.Ways.{Both, AreWays}
use Rattle.hera_effects.specs.Plain.{taken}
use Rattle.hera_stacks.proofs.Stacking.{walks_grow, operands_grow}
use Rattle.hera_effects.proofs.Moving.{some_first, pushes, asked_none, asked_some, none_ways, some_ways}
use Rattle.hera_effects.proofs.Walking.{some_open, one_way}

module _ (nodes : List Node) where
  pub drops : (w : Ways) (spot : Spot) (n : Node) (next a : ℕ) (p : Point) → node_at nodes spot.walks ≡ Some n → w.first ≡ Some next → w.second ≡ None → w.point ≡ Some (record { operands = spot.operands; walks = n.below; layers = spot.layers }) → next ≡ a + 1 → IsSpot nodes spot p
      → Both (AreWays nodes) (Some w) (first p.walks (λ w ws. goes (a + 1) (record p { walks = ws })))
  drops w spot n next a p at first-is second-is point-is is h =
      let o = some_open nodes spot.walks n p.walks at h.walks in
      some_ways nodes w _ (goes (a + 1) (record p { walks = o.1 })) (ap (λ xs. first xs (λ w ws. goes (a + 1) (record p { walks = ws }))) o.2)
      (one_way nodes w (record { operands = spot.operands; walks = n.below; layers = spot.layers }) (a + 1) (record p { walks = o.1 }) (first-is ∙ ap (λ (x : ℕ). Some x) is) second-is point-is (record { operands = h.operands; walks = o.5; layers = h.layers }))

  pub enters_not : (a : ℕ) (p : Point) → Both (AreOperands nodes) None (taken (Some of_delta) p.operands) → Both (AreWays nodes) None (takes_one of_delta p (λ ss. goes (a + 1) (record p { operands = ss; layers = suc p.layers })))
  enters_not a p h = none_ways nodes _ (asked_none (AreOperands nodes) of_delta p.operands (λ ss. goes (a + 1) (record p { operands = ss; layers = suc p.layers })) h)

  pub enters : (w : Ways) (spot : Spot) (id layers next a : ℕ) (p : Point) → Both (AreOperands nodes) (Some id) (taken (Some of_delta) p.operands) → layers ≡ spot.layers + 1 → w.first ≡ Some next → w.second ≡ None → w.point ≡ Some (record { operands = id; walks = spot.walks; layers = layers }) → next ≡ a + 1 → IsSpot nodes spot p
      → Both (AreWays nodes) (Some w) (takes_one of_delta p (λ ss. goes (a + 1) (record p { operands = ss; layers = suc p.layers })))
  enters w spot id layers next a p took more first-is second-is point-is is h =
      let x = asked_some (AreOperands nodes) of_delta p.operands (λ ss. goes (a + 1) (record p { operands = ss; layers = suc p.layers })) id took in
      some_ways nodes w _ _ x.2
      (one_way nodes w (record { operands = id; walks = spot.walks; layers = layers }) (a + 1) (record p { operands = x.0; layers = suc p.layers }) (first-is ∙ ap (λ (x : ℕ). Some x) is) second-is point-is (record { operands = x.1; walks = h.walks; layers = let own = h.layers in omega (arith, own, more) }))

  -- an operand of the kinds that the walk gathers
  abbrev pub Takes : Option ℕ → ℕ → FlatForm → Type 0
  Takes r operands form = (ss : List Seen) (f : Form) → AreOperands nodes operands ss → form ≡ flat_form f → Both (AreOperands nodes) r (taken (Some f) ss)

  pub gathers_not : (spot : Spot) (n : Node) (a : ℕ) (p : Point) → node_at nodes spot.walks ≡ Some n → Takes None spot.operands (flat.Tuple n.gathers) → IsSpot nodes spot p
      → Both (AreWays nodes) None (first p.walks (λ w ws. takes_one (of_tuple w.gathers) p (λ ss. goes (a + 1) (with_operands ss p))))
  gathers_not spot n a p at takes h =
      let o = some_open nodes spot.walks n p.walks at h.walks in
      none_ways nodes _ (ap (λ xs. first xs (λ w ws. takes_one (of_tuple w.gathers) p (λ ss. goes (a + 1) (with_operands ss p)))) o.2
      ∙ asked_none (AreOperands nodes) (of_tuple o.0.gathers) p.operands (λ ss. goes (a + 1) (with_operands ss p)) (takes p.operands (of_tuple o.0.gathers) h.operands (ap flat.Tuple o.4)))

  pub gathers_so : (w : Ways) (spot : Spot) (n : Node) (id next a : ℕ) (p : Point) → node_at nodes spot.walks ≡ Some n → Takes (Some id) spot.operands (flat.Tuple n.gathers) → w.first ≡ Some next → w.second ≡ None → w.point ≡ Some (record { operands = id; walks = spot.walks; layers = spot.layers }) → next ≡ a + 1 → IsSpot nodes spot p
      → Both (AreWays nodes) (Some w) (first p.walks (λ w ws. takes_one (of_tuple w.gathers) p (λ ss. goes (a + 1) (with_operands ss p))))
  gathers_so w spot n id next a p at takes first-is second-is point-is is h =
      let o = some_open nodes spot.walks n p.walks at h.walks in
      let x = asked_some (AreOperands nodes) (of_tuple o.0.gathers) p.operands (λ ss. goes (a + 1) (with_operands ss p)) id (takes p.operands (of_tuple o.0.gathers) h.operands (ap flat.Tuple o.4)) in
      some_ways nodes w _ _ (ap (λ xs. first xs (λ w ws. takes_one (of_tuple w.gathers) p (λ ss. goes (a + 1) (with_operands ss p)))) o.2 ∙ x.2)
      (one_way nodes w (record { operands = id; walks = spot.walks; layers = spot.layers }) (a + 1) (with_operands x.0 p) (first-is ∙ ap (λ (x : ℕ). Some x) is) second-is point-is (record { operands = x.1; walks = h.walks; layers = h.layers }))

  pub keeps_none : (spot : Spot) (n : Node) (a : ℕ) (p : Point) → node_at nodes spot.walks ≡ Some n → Takes None spot.operands (flat_form bool_form) → IsSpot nodes spot p
      → Both (AreWays nodes) None (first p.walks (λ w ws. takes_one bool_form p (λ ss. when (agrees w.over (of_table w.gathers)) (goes (a + 1) (with_operands ss p)))))
  keeps_none spot n a p at takes h =
      let o = some_open nodes spot.walks n p.walks at h.walks in
      none_ways nodes _ (ap (λ xs. first xs (λ w ws. takes_one bool_form p (λ ss. when (agrees w.over (of_table w.gathers)) (goes (a + 1) (with_operands ss p))))) o.2
      ∙ asked_none (AreOperands nodes) bool_form p.operands (λ ss. when (agrees o.0.over (of_table o.0.gathers)) (goes (a + 1) (with_operands ss p))) (takes p.operands bool_form h.operands refl))

  -- what is walked is not of the kinds that are gathered
  abbrev pub Agrees : Bool → FlatSeen → FlatForm → Type 0
  Agrees v seen form = (s : Seen) (f : Form) → seen ≡ flat_seen s → form ≡ flat_form f → v ≡ agrees s f

  pub keeps_not : (spot : Spot) (n : Node) (id a : ℕ) (p : Point) → node_at nodes spot.walks ≡ Some n → Takes (Some id) spot.operands (flat_form bool_form) → Agrees false n.seen (flat.Table n.gathers) → IsSpot nodes spot p
      → Both (AreWays nodes) None (first p.walks (λ w ws. takes_one bool_form p (λ ss. when (agrees w.over (of_table w.gathers)) (goes (a + 1) (with_operands ss p)))))
  keeps_not spot n id a p at takes fits h =
      let o = some_open nodes spot.walks n p.walks at h.walks in
      let x = asked_some (AreOperands nodes) bool_form p.operands (λ ss. when (agrees o.0.over (of_table o.0.gathers)) (goes (a + 1) (with_operands ss p))) id (takes p.operands bool_form h.operands refl) in
      none_ways nodes _ (ap (λ xs. first xs (λ w ws. takes_one bool_form p (λ ss. when (agrees w.over (of_table w.gathers)) (goes (a + 1) (with_operands ss p))))) o.2 ∙ x.2
      ∙ ap (λ v. when v (goes (a + 1) (with_operands x.0 p))) (sym (fits o.0.over (of_table o.0.gathers) o.3 (ap flat.Table o.4))))

  pub keeps_so : (w : Ways) (spot : Spot) (n : Node) (id next a : ℕ) (p : Point) → node_at nodes spot.walks ≡ Some n → Takes (Some id) spot.operands (flat_form bool_form) → Agrees true n.seen (flat.Table n.gathers) → w.first ≡ Some next → w.second ≡ None → w.point ≡ Some (record { operands = id; walks = spot.walks; layers = spot.layers }) → next ≡ a + 1 → IsSpot nodes spot p
      → Both (AreWays nodes) (Some w) (first p.walks (λ w ws. takes_one bool_form p (λ ss. when (agrees w.over (of_table w.gathers)) (goes (a + 1) (with_operands ss p)))))
  keeps_so w spot n id next a p at takes fits first-is second-is point-is is h =
      let o = some_open nodes spot.walks n p.walks at h.walks in
      let x = asked_some (AreOperands nodes) bool_form p.operands (λ ss. when (agrees o.0.over (of_table o.0.gathers)) (goes (a + 1) (with_operands ss p))) id (takes p.operands bool_form h.operands refl) in
      some_ways nodes w _ _ (ap (λ xs. first xs (λ w ws. takes_one bool_form p (λ ss. when (agrees w.over (of_table w.gathers)) (goes (a + 1) (with_operands ss p))))) o.2 ∙ x.2
      ∙ ap (λ v. when v (goes (a + 1) (with_operands x.0 p))) (sym (fits o.0.over (of_table o.0.gathers) o.3 (ap flat.Table o.4))))
      (one_way nodes w (record { operands = id; walks = spot.walks; layers = spot.layers }) (a + 1) (with_operands x.0 p) (first-is ∙ ap (λ (x : ℕ). Some x) is) second-is point-is (record { operands = x.1; walks = h.walks; layers = h.layers }))

-- ---- operands and walks pushed

module _ (before nodes : List Node) where
  pub pushed_so : {E : Type 0} (operands : ℕ) (form : FlatForm) (o : Option Form) (ss : List Seen) (r : Result ℕ E) → Grows before nodes → AreOperands before operands ss → Some form ≡ option_map flat_form o
      → IfOk r (λ list. node_at nodes list ≡ Some (record { seen = flat_seens.Known form; gathers = flat_kinds []; below = operands })) → IfOk r (λ list. AreOperands nodes list (pushed_result o ss))
  pushed_so operands form None ss r grows h e at = absurd (none-some form (sym e))
  pushed_so operands form (Some f) ss r grows h e at =
      IfOk-weaker r _ _ (λ list own. pushes nodes list operands form f ss own (same_Some form (flat_form f) e) (operands_grow before nodes ss operands grows h)) at

  pub yields : (w : Ways) (spot : Spot) (n : Node) (id next a : ℕ) (p : Point) → Grows before nodes → node_at before spot.walks ≡ Some n → node_at nodes id ≡ Some (record { seen = flat_seens.Known (flat.Table n.gathers); gathers = flat_kinds []; below = spot.operands })
      → w.first ≡ Some next → w.second ≡ None → w.point ≡ Some (record { operands = id; walks = n.below; layers = spot.layers }) → next ≡ a + 1 → IsSpot before spot p
      → Both (AreWays nodes) (Some w) (first p.walks (λ w ws. goes (a + 1) (record p { operands = known (of_table w.gathers) ∷ p.operands; walks = ws })))
  yields w spot n id next a p grows at new first-is second-is point-is is h =
      let o = some_open before spot.walks n p.walks at h.walks in
      some_ways nodes w _ (goes (a + 1) (record p { operands = known (of_table o.0.gathers) ∷ p.operands; walks = o.1 })) (ap (λ xs. first xs (λ w ws. goes (a + 1) (record p { operands = known (of_table w.gathers) ∷ p.operands; walks = ws }))) o.2)
      (one_way nodes w (record { operands = id; walks = n.below; layers = spot.layers }) (a + 1) (record p { operands = known (of_table o.0.gathers) ∷ p.operands; walks = o.1 }) (first-is ∙ ap (λ (x : ℕ). Some x) is) second-is point-is
      (record { operands = pushes nodes id spot.operands (flat.Table n.gathers) (of_table o.0.gathers) p.operands new (ap flat.Table o.4) (operands_grow before nodes p.operands spot.operands grows h.operands); walks = walks_grow before nodes o.1 n.below grows o.5; layers = h.layers }))

  pub opens : (w : Ways) (spot : Spot) (n m : Node) (id next : ℕ) (p : Point) (ks : Option (List Kind)) → Grows before nodes → node_at before spot.operands ≡ Some n → ((s : Seen) → n.seen ≡ flat_seen s → true ≡ is_relation s) → Some m.gathers ≡ option_map flat_kinds ks
      → node_at nodes id ≡ Some m → m.seen ≡ n.seen → m.below ≡ spot.walks → w.first ≡ Some next → w.second ≡ None → w.point ≡ Some (record { operands = n.below; walks = id; layers = spot.layers }) → IsSpot before spot p
      → Both (AreWays nodes) (Some w) (first p.operands (λ s ss. when (is_relation s) (Some (record { to = next; point = opened_point s ss p ks } ∷ []))))
  opens w spot n m id next p None grows at table kinds new seen below first-is second-is point-is h = absurd (none-some m.gathers (sym kinds))
  opens w spot n m id next p (Some ks) grows at table kinds new seen below first-is second-is point-is h =
      let o = some_first before spot.operands n p.operands at h.operands in
      let q = record p { operands = o.1; walks = opened o.0 ks ∷ p.walks } in
      some_ways nodes w _ (goes next q)
      (ap (λ xs. first xs (λ s ss. when (is_relation s) (Some (record { to = next; point = opened_point s ss p (Some ks) } ∷ [])))) o.2 ∙ ap (λ v. when v (goes next q)) (sym (table o.0 o.3)))
      (one_way nodes w (record { operands = n.below; walks = id; layers = spot.layers }) next q first-is second-is point-is
      (record {
        operands = operands_grow before nodes o.1 n.below grows o.4;
        walks = (spot.walks, new ∙ (λ i. Some (record { seen = (seen ∙ o.3) i; gathers = same_Some m.gathers (flat_kinds ks) kinds i; below = below i })), walks_grow before nodes p.walks spot.walks grows h.walks);
        layers = h.layers;
      }))
