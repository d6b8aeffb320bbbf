-- What the pass keeps stands for what was found.
use Rattle.std.proofs.Common.{◌≡◌, ◌≢◌, ◌<◌, ◌≤◌, ◌⊎◌, inl, inr, ℕ, Bool, true, false, cond, ◌&&◌, List, [], ◌∷◌, length, Option, None, Some, refl, sym, ap, subst, ◌∙◌, arith}
use Rattle.std.specs.Prelude.{slice_get, slice_set, nat_lt, nat_eq}
use Rattle.std.proofs.lemmas.Bool.{ltb-true, lt-ltb, eqb-true, eq-eqb, ne_eqb, false≢true, and_parts}
use Rattle.std.proofs.lemmas.Option.{same_Some}
use Rattle.hera_meaning.specs.declared.schemas.RelDecl.{RelDecl}
use Rattle.hera_meaning.specs.Hosts.{Hosts}
use Rattle.hera_code.specs.declared.instrs.Code.{Code}
use Rattle.hera_typed.specs.Points.{Point}
use Rattle.hera_typed.specs.Effects.{Body_note, Goal, home}
use Rattle.hera_typed.specs.Pass.{same_point, Found, with_point, with_broken, fails, meets_point, follows_point, follow, follow_next, follow_all}
use Rattle.hera_typed.proofs.Passes.{point_same, point_differs}
use Rattle.hera_stacks.specs.declared.stacks.Node.{Node}
use Rattle.hera_effects.specs.declared.spots.Spot.{Spot}
use Rattle.hera_effects.specs.declared.spots.Ways.{Ways}
use Rattle.hera_stacks.specs.Stacked.{IsShared, Grows}
use Rattle.hera_effects.specs.Spots.{IsSpot}
use Rattle.hera_effects.specs.Ways.{Both, AreWays, listed, all_to}
use Rattle.hera_effects.proofs.Spotting.{spot_grows, spot_one, spots_same}
use Rattle.hera_verify.specs.declared.tables.Table.{Table}
use Rattle.hera_verify.specs.Tables.{IsNearest, IsTable, Keeps}
use Rattle.hera_verify.proofs.Spanning.{set_same, set_other, set_long, there}

-- ---- a broken address more

marked : (f : Found) (to : ℕ) → cond (nat_eq to to) true (f.broken to) ≡ true
marked f to = ap (λ b. cond b true (f.broken to)) (eq-eqb to to refl)

unmarked : (f : Found) (to c : ℕ) → c ≢ to → cond (nat_eq c to) true (f.broken c) ≡ f.broken c
unmarked f to c apart = ap (λ b. cond b true (f.broken c)) (ne_eqb c to apart)

still_marked : (f : Found) (to c : ℕ) → f.broken c ≡ true → cond (nat_eq c to) true (f.broken c) ≡ true
still_marked f to c e = by (nat_eq c to)
  where
    by : (v : Bool) → cond v true (f.broken c) ≡ true
    by true = refl
    by false = e

nearest_below : (len to : ℕ) (f : Found) (far : Option ℕ) → to < len → IsNearest len f.broken far → IsNearest len (with_broken to f).broken far
nearest_below len to f None lt h = λ c low. unmarked f to c (λ e. absurd (omega (arith, e, lt, low))) ∙ h c low
nearest_below len to f (Some far) lt h = (h.0, still_marked f to far h.1, λ c low less. unmarked f to c (λ e. absurd (omega (arith, e, lt, low))) ∙ h.2 c low less)

-- ---- the table

module _ (nodes : List Node) (len : ℕ) where
  pub table_grows : (after : List Node) (t : Table) (f : Found) → Grows nodes after → IsTable nodes len t f → IsTable after len t f
  table_grows after t f grows h = record {
    spots_long = h.spots_long;
    broken_long = h.broken_long;
    points = λ c o get. by o (f.points c) (h.points c o get);
    broken = h.broken;
    far = h.far;
  }
    where
      by : (o : Option Spot) (q : Option Point) → Both (IsSpot nodes) o q → Both (IsSpot after) o q
      by None None h = tt
      by None (Some q) h = absurd h
      by (Some s) None h = absurd h
      by (Some s) (Some q) h = spot_grows nodes after s q grows h

  pub marks_within : (before after : Table) (f : Found) (to : ℕ) → to < length before.broken.items → after.spots ≡ before.spots → after.broken.items ≡ slice_set before.broken.items to true → after.far ≡ before.far
      → IsTable nodes len before f → IsTable nodes len after (with_broken to f)
  marks_within before after f to lt spots broken far h = record {
    spots_long = ap (λ v. length v.items) spots ∙ h.spots_long;
    broken_long = ap length broken ∙ set_long before.broken.items to true ∙ h.broken_long;
    points = λ c o get. h.points c o (sym (ap (λ v. slice_get v.items c) spots) ∙ get);
    broken = λ c b get. by c b (cases_eq c to) (sym (ap (λ xs. slice_get xs c) broken) ∙ get);
    far = subst (λ o. IsNearest len (with_broken to f).broken o) (sym far) (nearest_below len to f before.far (omega (arith, lt, h.broken_long)) h.far);
  }
    where
      cases_eq : (c d : ℕ) → (c ≡ d) ⊎ (c ≢ d)
      cases_eq c d = split (nat_eq c d) refl
        where
          split : (v : Bool) → nat_eq c d ≡ v → (c ≡ d) ⊎ (c ≢ d)
          split true e = inl (eqb-true c d e)
          split false e = inr (λ same. false≢true (sym e ∙ eq-eqb c d same))

      by : (c : ℕ) (b : Bool) → (c ≡ to) ⊎ (c ≢ to) → slice_get (slice_set before.broken.items to true) c ≡ Some b → b ≡ cond (nat_eq c to) true (f.broken c)
      by c b (inl e) get =
          let own : true ≡ b = same_Some true b (sym (set_same before.broken.items to true lt) ∙ ap (slice_get (slice_set before.broken.items to true)) (sym e) ∙ get) in
          sym own ∙ sym (ap (λ v. cond v true (f.broken c)) (eq-eqb c to e))
      by c b (inr apart) get =
          h.broken c b (sym (set_other before.broken.items to c true (λ e. apart (sym e))) ∙ get) ∙ sym (unmarked f to c apart)

  pub marks_behind : (before after : Table) (f : Found) (to : ℕ) → length before.broken.items ≤ to → after.spots ≡ before.spots → after.broken ≡ before.broken
      → (len ≤ to → IsNearest len f.broken before.far → IsNearest len (with_broken to f).broken after.far) → IsTable nodes len before f → IsTable nodes len after (with_broken to f)
  marks_behind before after f to le spots broken far h = record {
    spots_long = ap (λ v. length v.items) spots ∙ h.spots_long;
    broken_long = ap (λ v. length v.items) broken ∙ h.broken_long;
    points = λ c o get. h.points c o (sym (ap (λ v. slice_get v.items c) spots) ∙ get);
    broken = λ c b get. by c b (sym (ap (λ v. slice_get v.items c) broken) ∙ get);
    far = far (omega (arith, le, h.broken_long)) h.far;
  }
    where
      by : (c : ℕ) (b : Bool) → slice_get before.broken.items c ≡ Some b → b ≡ cond (nat_eq c to) true (f.broken c)
      by c b get =
          let lt = there before.broken.items c b get in
          h.broken c b get ∙ sym (unmarked f to c (λ e. absurd (omega (arith, e, lt, le))))

  pub puts : (before after : Table) (f : Found) (to : ℕ) (spot : Spot) (q : Point) → to < length before.spots.items → after.spots.items ≡ slice_set before.spots.items to (Some spot) → after.broken ≡ before.broken → after.far ≡ before.far
      → IsTable nodes len before f → IsSpot nodes spot q → IsTable nodes len after (with_point to q f)
  puts before after f to spot q lt spots broken far h is = record {
    spots_long = ap length spots ∙ set_long before.spots.items to (Some spot) ∙ h.spots_long;
    broken_long = ap (λ v. length v.items) broken ∙ h.broken_long;
    points = λ c o get. by c o (nat_eq c to) refl (sym (ap (λ xs. slice_get xs c) spots) ∙ get);
    broken = λ c b get. h.broken c b (sym (ap (λ v. slice_get v.items c) broken) ∙ get);
    far = subst (λ o. IsNearest len f.broken o) (sym far) h.far;
  }
    where
      by : (c : ℕ) (o : Option Spot) (v : Bool) → nat_eq c to ≡ v → slice_get (slice_set before.spots.items to (Some spot)) c ≡ Some o → Both (IsSpot nodes) o (cond v (Some q) (f.points c))
      by c o true e get =
          let same : c ≡ to = eqb-true c to e in
          let own : Some spot ≡ o = same_Some (Some spot) o (sym (set_same before.spots.items to (Some spot) lt) ∙ ap (slice_get (slice_set before.spots.items to (Some spot))) (sym same) ∙ get) in
          subst (λ x. Both (IsSpot nodes) x (Some q)) own is
      by c o false e get =
          h.points c o (sym (set_other before.spots.items to c (Some spot) (λ same. false≢true (sym e ∙ eq-eqb c to (sym same)))) ∙ get)

  -- ---- ways

  module _ (code : Code) (rels : List RelDecl) (hosts : Hosts) (notes : List Body_note) where
    pub keeps_at : (t : Table) (ok : Bool) (x y : Option Found) → x ≡ y → Keeps nodes len t ok x → Keeps nodes len t ok y
    keeps_at t ok x y e h = subst (λ o. Keeps nodes len t ok o) e h

    pub fails_passed : (t : Table) (a to : ℕ) (f : Found) → to ≤ a → Keeps nodes len t false (fails code rels hosts notes a to f)
    fails_passed t a to f le = by (nat_lt a to) refl
      where
        by : (v : Bool) → nat_lt a to ≡ v → Keeps nodes len t false (cond v (Some (with_broken to f)) None)
        by true e = let lt = ltb-true a to e in absurd (omega (arith, lt, le))
        by false e = tt

    pub fails_ahead : (t : Table) (a to : ℕ) (f : Found) → a < to → IsTable nodes len t (with_broken to f) → Keeps nodes len t true (fails code rels hosts notes a to f)
    fails_ahead t a to f lt h = subst (λ v. Keeps nodes len t true (cond v (Some (with_broken to f)) None)) (sym (lt-ltb a to lt)) h

    pub finds_passed : (t : Table) (a to : ℕ) (q : Point) (f : Found) → to ≤ a → Keeps nodes len t false (meets_point code rels hosts notes a to q None f)
    finds_passed t a to q f le = by (nat_lt a to) refl
      where
        by : (v : Bool) → nat_lt a to ≡ v → Keeps nodes len t false (cond v (Some (with_point to q f)) None)
        by true e = let lt = ltb-true a to e in absurd (omega (arith, lt, le))
        by false e = tt

    pub finds_ahead : (t : Table) (a to : ℕ) (q : Point) (f : Found) → a < to → IsTable nodes len t (with_point to q f) → Keeps nodes len t true (meets_point code rels hosts notes a to q None f)
    finds_ahead t a to q f lt h = subst (λ v. Keeps nodes len t true (cond v (Some (with_point to q f)) None)) (sym (lt-ltb a to lt)) h

    same_so : (p q : Point) → p ≡ q → same_point p q ≡ true
    same_so p q e = by (same_point p q) refl
      where
        by : (v : Bool) → same_point p q ≡ v → v ≡ true
        by true h = refl
        by false h = absurd (point_differs p q h e)

    pub meets_same : (t : Table) (a to : ℕ) (spot known : Spot) (q r : Point) (f : Found) → spot ≡ known → IsSpot nodes spot q → IsSpot nodes known r → IsTable nodes len t f → Keeps nodes len t true (meets_point code rels hosts notes a to q (Some r) f)
    meets_same t a to spot known q r f e h g is =
        let same = spot_one nodes known q r (subst (λ s. IsSpot nodes s q) e h) g in
        subst (λ v. Keeps nodes len t true (cond v (Some f) (fails code rels hosts notes a to f))) (sym (same_so q r same)) is

    pub meets_other : (t : Table) (ok : Bool) (a to : ℕ) (spot known : Spot) (q r : Point) (f : Found) → (spot ≡ known → ⊥) → IsShared nodes → IsSpot nodes spot q → IsSpot nodes known r → Keeps nodes len t ok (fails code rels hosts notes a to f) → Keeps nodes len t ok (meets_point code rels hosts notes a to q (Some r) f)
    meets_other t ok a to spot known q r f apart shared h g is = by (same_point q r) refl
      where
        by : (v : Bool) → same_point q r ≡ v → Keeps nodes len t ok (cond v (Some f) (fails code rels hosts notes a to f))
        by true e = absurd (apart (spots_same nodes spot known q shared h (subst (λ p. IsSpot nodes known p) (sym (point_same q r e)) g)))
        by false e = is

    -- what stands at an address of the table
    pub arrives_none : (t : Table) (ok : Bool) (after : Table) (a to : ℕ) (q : Point) (f : Found) → slice_get t.spots.items to ≡ Some None → IsTable nodes len t f → Keeps nodes len after ok (meets_point code rels hosts notes a to q None f) → Keeps nodes len after ok (meets_point code rels hosts notes a to q (f.points to) f)
    arrives_none t ok after a to q f get h is = by (f.points to) (h.points to None get)
      where
        by : (o : Option Point) → Both (IsSpot nodes) None o → Keeps nodes len after ok (meets_point code rels hosts notes a to q o f)
        by None k = is
        by (Some r) k = absurd k

    pub arrives_some : (t : Table) (ok : Bool) (after : Table) (known : Spot) (a to : ℕ) (q : Point) (f : Found) → slice_get t.spots.items to ≡ Some (Some known) → IsTable nodes len t f
        → ((r : Point) → IsSpot nodes known r → Keeps nodes len after ok (meets_point code rels hosts notes a to q (Some r) f)) → Keeps nodes len after ok (meets_point code rels hosts notes a to q (f.points to) f)
    arrives_some t ok after known a to q f get h is = by (f.points to) (h.points to (Some known) get)
      where
        by : (o : Option Point) → Both (IsSpot nodes) (Some known) o → Keeps nodes len after ok (meets_point code rels hosts notes a to q o f)
        by None k = absurd k
        by (Some r) k = is r k

    pub arrives_not : (t : Table) (ok : Bool) (a to : ℕ) (q : Option Point) (f : Found) → Both (IsSpot nodes) None q → Keeps nodes len t ok (fails code rels hosts notes a to f) → Keeps nodes len t ok (follows_point code rels hosts notes a to q f)
    arrives_not t ok a to None f h is = is
    arrives_not t ok a to (Some q) f h is = absurd h

    pub arrives_so : (t : Table) (ok : Bool) (spot : Spot) (a to : ℕ) (q : Option Point) (f : Found) → Both (IsSpot nodes) (Some spot) q
        → ((p : Point) → IsSpot nodes spot p → Keeps nodes len t ok (meets_point code rels hosts notes a to p (f.points to) f)) → Keeps nodes len t ok (follows_point code rels hosts notes a to q f)
    arrives_so t ok spot a to None f h is = absurd h
    arrives_so t ok spot a to (Some q) f h is = is q h

-- ---- ways from an address

module _ (code : Code) (rels : List RelDecl) (hosts : Hosts) (notes : List Body_note) (nodes : List Node) where
  pub follows_in : (t : Table) (ok : Bool) (a to : ℕ) (q : Option Point) (f : Found) → to < length code.instrs → home code to ≡ home code a → Keeps nodes (length code.instrs) t ok (follows_point code rels hosts notes a to q f) → Keeps nodes (length code.instrs) t ok (follow code rels hosts notes a (record { to = to; point = q }) f)
  follows_in t ok a to q f lt same is =
      let first = lt-ltb to (length code.instrs) lt in
      let second = eq-eqb (home code to) (home code a) same in
      subst (λ (v : Bool). Keeps nodes (length code.instrs) t ok (cond v (follows_point code rels hosts notes a to q f) (fails code rels hosts notes a to f))) (sym (λ i. first i && second i)) is

  pub follows_out : (t : Table) (ok : Bool) (a to : ℕ) (q : Option Point) (f : Found) → (to < length code.instrs → home code to ≡ home code a → ⊥) → Keeps nodes (length code.instrs) t ok (fails code rels hosts notes a to f) → Keeps nodes (length code.instrs) t ok (follow code rels hosts notes a (record { to = to; point = q }) f)
  follows_out t ok a to q f out is = by (nat_lt to (length code.instrs) && nat_eq (home code to) (home code a)) refl
    where
      by : (v : Bool) → nat_lt to (length code.instrs) && nat_eq (home code to) (home code a) ≡ v → Keeps nodes (length code.instrs) t ok (cond v (follows_point code rels hosts notes a to q f) (fails code rels hosts notes a to f))
      by true e =
          let p = and_parts (nat_lt to (length code.instrs)) (nat_eq (home code to) (home code a)) e in
          absurd (out (ltb-true to (length code.instrs) p.0) (eqb-true (home code to) (home code a) p.1))
      by false e = is

  -- one way alone is followed as the only one
  pub follows_one : (t : Table) (ok : Bool) (a to : ℕ) (q : Option Point) (f : Found) → Keeps nodes (length code.instrs) t ok (follow code rels hosts notes a (record { to = to; point = q }) f) → Keeps nodes (length code.instrs) t ok (follow_all code rels hosts notes a (all_to (listed (Some to) None) q) f)
  follows_one t ok a to q f h = by ok (follow code rels hosts notes a (record { to = to; point = q }) f) h
    where
      by : (ok : Bool) (o : Option Found) → Keeps nodes (length code.instrs) t ok o → Keeps nodes (length code.instrs) t ok (follow_next code rels hosts notes (λ f. Some f) o)
      by true None h = absurd h
      by true (Some g) h = h
      by false None h = tt
      by false (Some g) h = absurd h

  -- the second way behind the first
  after_both : (a : ℕ) (first second : Option ℕ) (q : Option Point) (f : Found)
      → follow_all code rels hosts notes a (all_to (listed first second) q) f ≡ follow_next code rels hosts notes (λ g. follow_all code rels hosts notes a (all_to (listed second None) q) g) (follow_all code rels hosts notes a (all_to (listed first None) q) f)
  after_both a None None q f = refl
  after_both a None (Some b) q f = refl
  after_both a (Some c) None q f = by (follow code rels hosts notes a (record { to = c; point = q }) f)
    where
      by : (o : Option Found) → follow_next code rels hosts notes (λ g. Some g) o ≡ follow_next code rels hosts notes (λ g. Some g) (follow_next code rels hosts notes (λ g. Some g) o)
      by None = refl
      by (Some g) = refl
  after_both a (Some c) (Some b) q f = by (follow code rels hosts notes a (record { to = c; point = q }) f)
    where
      by : (o : Option Found) → follow_next code rels hosts notes (λ g. follow_all code rels hosts notes a (record { to = b; point = q } ∷ []) g) o ≡ follow_next code rels hosts notes (λ g. follow_all code rels hosts notes a (record { to = b; point = q } ∷ []) g) (follow_next code rels hosts notes (λ g. Some g) o)
      by None = refl
      by (Some g) = refl

  pub follows_not : (t : Table) (a : ℕ) (w : Ways) (gs : List Goal) (f : Found) → (h : AreWays nodes w gs) → ((q : Option Point) → Both (IsSpot nodes) w.point q → Keeps nodes (length code.instrs) t false (follow_all code rels hosts notes a (all_to (listed w.first None) q) f)) → Keeps nodes (length code.instrs) t false (follow_all code rels hosts notes a gs f)
  follows_not t a w gs f h is =
      subst (λ o. Keeps nodes (length code.instrs) t false o) (sym (ap (λ xs. follow_all code rels hosts notes a xs f) h.goals ∙ after_both a w.first w.second h.point f))
      (by (follow_all code rels hosts notes a (all_to (listed w.first None) h.point) f) (is h.point h.point_is))
    where
      by : (o : Option Found) → Keeps nodes (length code.instrs) t false o → Keeps nodes (length code.instrs) t false (follow_next code rels hosts notes (λ g. follow_all code rels hosts notes a (all_to (listed w.second None) h.point) g) o)
      by None k = tt
      by (Some g) k = absurd k

  pub follows_both : (mid after : Table) (ok : Bool) (a : ℕ) (w : Ways) (gs : List Goal) (f : Found) → (h : AreWays nodes w gs)
      → ((q : Option Point) → Both (IsSpot nodes) w.point q → Keeps nodes (length code.instrs) mid true (follow_all code rels hosts notes a (all_to (listed w.first None) q) f))
      → ((q : Option Point) (g : Found) → Both (IsSpot nodes) w.point q → IsTable nodes (length code.instrs) mid g → Keeps nodes (length code.instrs) after ok (follow_all code rels hosts notes a (all_to (listed w.second None) q) g))
      → Keeps nodes (length code.instrs) after ok (follow_all code rels hosts notes a gs f)
  follows_both mid after ok a w gs f h one two =
      subst (λ o. Keeps nodes (length code.instrs) after ok o) (sym (ap (λ xs. follow_all code rels hosts notes a xs f) h.goals ∙ after_both a w.first w.second h.point f))
      (by (follow_all code rels hosts notes a (all_to (listed w.first None) h.point) f) (one h.point h.point_is))
    where
      by : (o : Option Found) → Keeps nodes (length code.instrs) mid true o → Keeps nodes (length code.instrs) after ok (follow_next code rels hosts notes (λ g. follow_all code rels hosts notes a (all_to (listed w.second None) h.point) g) o)
      by None k = absurd k
      by (Some g) k = two h.point g h.point_is k
