-- Operands taken and pushed.
use Rattle.std.proofs.Common.{◌≡◌, ℕ, Bool, true, false, List, [], ◌∷◌, Option, None, Some, refl, sym, ap, subst, ◌∙◌}
use Rattle.std.proofs.lemmas.Option.{none-some, same_Some}
use Rattle.hera_meaning.specs.Forms.{Form}
use Rattle.hera_typed.specs.Points.{Seen, Point, with, when, first, agrees}
use Rattle.hera_typed.specs.Effects.{Goal, with_operands, pushed_result}
use Rattle.hera_stacks.specs.declared.forms.FlatForm.{FlatForm}
use Rattle.hera_stacks.specs.declared.forms.FlatSeen.TheVariants as flat_seens
use Rattle.hera_stacks.specs.declared.stacks.Node.{Node}
use Rattle.hera_effects.specs.declared.spots.Spot.{Spot}
use Rattle.hera_effects.specs.declared.spots.Ways.{Ways}
use Rattle.hera_effects.specs.declared.plain.Plain.{Plain}
use Rattle.hera_stacks.specs.Flat.{flat_kinds, flat_form, flat_seen}
use Rattle.hera_stacks.specs.Stacked.{node_at, AreOperands, Grows}
use Rattle.hera_effects.specs.Spots.{IsSpot}
use Rattle.hera_effects.specs.Ways.{Both, AreWays, listed, all_to}
use Rattle.hera_effects.specs.Plain.{Plain_effect, IsPlain, taken, moved}
use Rattle.hera_stacks.proofs.Stacking.{walks_grow}

module _ (nodes : List Node) where
  -- without a first item there is none
  pub none_first : (id : ℕ) (ss : List Seen) → node_at nodes id ≡ None → AreOperands nodes id ss → ss ≡ []
  none_first id [] e h = refl
  none_first id (s ∷ ss) e h = absurd (none-some _ (sym e ∙ h.1))

  -- the first item and the others
  pub some_first : (id : ℕ) (n : Node) (ss : List Seen) → node_at nodes id ≡ Some n → AreOperands nodes id ss → (s : Seen) × (rest : List Seen) × (ss ≡ s ∷ rest) × (n.seen ≡ flat_seen s) × AreOperands nodes n.below rest
  some_first id n [] e h = absurd (none-some n (sym (ap (node_at nodes) h) ∙ e))
  some_first id n (s ∷ ss) e h =
      let same : record { seen = flat_seen s; gathers = flat_kinds []; below = h.0 } ≡ n = same_Some _ n (sym h.1 ∙ e) in
      (s, ss, refl, sym (ap (λ (m : Node). m.seen) same), subst (λ (b : ℕ). AreOperands nodes b ss) (ap (λ (m : Node). m.below) same) h.2)

  pub takes_none : (id : ℕ) (ss : List Seen) (f : Form) → node_at nodes id ≡ None → AreOperands nodes id ss → Both (AreOperands nodes) None (taken (Some f) ss)
  takes_none id ss f e h = subst (λ xs. Both (AreOperands nodes) None (taken (Some f) xs)) (sym (none_first id ss e h)) tt

  pub takes_one : (id : ℕ) (n : Node) (ss : List Seen) (f : Form) (v : Bool) → node_at nodes id ≡ Some n → AreOperands nodes id ss → ((s : Seen) → n.seen ≡ flat_seen s → v ≡ agrees s f)
      → v ≡ true → Both (AreOperands nodes) (Some n.below) (taken (Some f) ss)
  takes_one id n ss f v e h fits it =
      let parts = some_first id n ss e h in
      subst (λ xs. Both (AreOperands nodes) (Some n.below) (taken (Some f) xs)) (sym parts.2)
      (subst (λ b. Both (AreOperands nodes) (Some n.below) (when b (Some parts.1))) (sym it ∙ fits parts.0 parts.3) parts.4)

  pub takes_no : (id : ℕ) (n : Node) (ss : List Seen) (f : Form) (v : Bool) → node_at nodes id ≡ Some n → AreOperands nodes id ss → ((s : Seen) → n.seen ≡ flat_seen s → v ≡ agrees s f)
      → v ≡ false → Both (AreOperands nodes) None (taken (Some f) ss)
  takes_no id n ss f v e h fits it =
      let parts = some_first id n ss e h in
      subst (λ xs. Both (AreOperands nodes) None (taken (Some f) xs)) (sym parts.2)
      (subst (λ b. Both (AreOperands nodes) None (when b (Some parts.1))) (sym it ∙ fits parts.0 parts.3) tt)

  pub pushes : (id below : ℕ) (form : FlatForm) (f : Form) (ss : List Seen) → node_at nodes id ≡ Some (record { seen = flat_seens.Known form; gathers = flat_kinds []; below = below }) → form ≡ flat_form f → AreOperands nodes below ss → AreOperands nodes id (pushed_result (Some f) ss)
  pushes id below form f ss at e h = (below, at ∙ ap (λ (g : FlatForm). Some (record { seen = flat_seens.Known g; gathers = flat_kinds []; below = below })) e, h)

  -- nothing to take: it ends
  pub moves_not : (p : Point) (e : Plain_effect) → Both (AreOperands nodes) None (taken e.takes p.operands) → Both (AreWays nodes) None (moved p e)
  moves_not p e h = by (taken e.takes p.operands) h
    where
      by : (o : Option (List Seen)) → Both (AreOperands nodes) None o → Both (AreWays nodes) None (with o (λ ss. Some (all_to e.ways (Some (with_operands (pushed_result e.gives ss) p)))))
      by None h = tt
      by (Some ss) h = absurd h

  pub moves : (before : List Node) (spot : Spot) (rest operands : ℕ) (w : Ways) (p : Point) (plain : Plain) (e : Plain_effect) → Grows before nodes → IsSpot before spot p → IsPlain plain e
      → Both (AreOperands before) (Some rest) (taken e.takes p.operands)
      → ((ss : List Seen) → AreOperands before rest ss → AreOperands nodes operands (pushed_result e.gives ss))
      → w.first ≡ plain.first → w.second ≡ plain.second → w.point ≡ Some (record { operands = operands; walks = spot.walks; layers = spot.layers })
      → Both (AreWays nodes) (Some w) (moved p e)
  moves before spot rest operands w p plain e grows at is took pushed first-is second-is point-is = by (taken e.takes p.operands) took
    where
      ways : listed w.first w.second ≡ e.ways
      ways = (λ i. listed (first-is i) (second-is i)) ∙ is.ways

      there : (ss : List Seen) → AreOperands before rest ss → Both (IsSpot nodes) w.point (Some (with_operands (pushed_result e.gives ss) p))
      there ss h = subst (λ o. Both (IsSpot nodes) o (Some (with_operands (pushed_result e.gives ss) p))) (sym point-is) (record { operands = pushed ss h; walks = walks_grow before nodes p.walks spot.walks grows at.walks; layers = at.layers })

      by : (o : Option (List Seen)) → Both (AreOperands before) (Some rest) o → Both (AreWays nodes) (Some w) (with o (λ ss. Some (all_to e.ways (Some (with_operands (pushed_result e.gives ss) p)))))
      by None h = absurd h
      by (Some ss) h = record { point = Some (with_operands (pushed_result e.gives ss) p); point_is = there ss h; goals = ap (λ ws. all_to ws (Some (with_operands (pushed_result e.gives ss) p))) (sym ways) }

-- ---- an operand that is asked for

pub asked_none : (R : ℕ → List Seen → Type 0) (f : Form) (ss : List Seen) (go : List Seen → Option (List Goal)) → Both R None (taken (Some f) ss) → first ss (λ s rest. when (agrees s f) (go rest)) ≡ None
asked_none R f [] go h = refl
asked_none R f (s ∷ ss) go h = by (agrees s f) h
  where
    by : (v : Bool) → Both R None (when v (Some ss)) → when v (go ss) ≡ None
    by true h = absurd h
    by false h = refl

pub asked_some : (R : ℕ → List Seen → Type 0) (f : Form) (ss : List Seen) (go : List Seen → Option (List Goal)) (id : ℕ) → Both R (Some id) (taken (Some f) ss) → (rest : List Seen) × R id rest × (first ss (λ s rest. when (agrees s f) (go rest)) ≡ go rest)
asked_some R f [] go id h = absurd h
asked_some R f (s ∷ ss) go id h = by (agrees s f) h
  where
    by : (v : Bool) → Both R (Some id) (when v (Some ss)) → (rest : List Seen) × R id rest × (when v (go ss) ≡ go rest)
    by true h = (ss, h, refl)
    by false h = absurd h

pub none_ways : (nodes : List Node) (o : Option (List Goal)) → o ≡ None → Both (AreWays nodes) None o
none_ways nodes o e = subst (λ x. Both (AreWays nodes) None x) (sym e) tt

pub some_ways : (nodes : List Node) (w : Ways) (o q : Option (List Goal)) → o ≡ q → Both (AreWays nodes) (Some w) q → Both (AreWays nodes) (Some w) o
some_ways nodes w o q e h = subst (λ x. Both (AreWays nodes) (Some w) x) (sym e) h
