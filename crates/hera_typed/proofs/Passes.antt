-- A pass keeps what was found, and it stops at the least address that is broken.
use Rattle.std.proofs.Common.{◌≡◌, ℕ, zero, suc, ◌+◌, ◌<◌, ◌≤◌, ◌⊎◌, ◌&&◌, ◌||◌, not, Bool, true, false, cond, List, [], ◌∷◌, length, Option, Some, None, refl, sym, ap, ◌∙◌, subst, arith, inl, inr}
use Rattle.std.specs.Prelude.{slice_get, nat_eq, nat_lt, is_some}
use Rattle.std.proofs.lemmas.Bool.{false≢true, and_parts, and_from, or_left, or_right, lt-ltb, eqb-true, eqb-false, eq-eqb, ltb-true, ltb-false, ne_eqb}
use Rattle.hera_meaning.specs.declared.scalars.Kind.{Kind}
use Rattle.hera_meaning.specs.declared.schemas.RelDecl.{RelDecl}
use Rattle.hera_meaning.specs.Hosts.{Hosts}
use Rattle.hera_code.specs.declared.instrs.BodyInfo.{BodyInfo}
use Rattle.hera_code.specs.declared.instrs.Code.{Code}
use Rattle.hera_code.specs.declared.instrs.Instr.{Instr}
use Rattle.hera_code.specs.declared.instrs.Instr.TheVariants.{Walk}
use Rattle.hera_typed.specs.Points.{Seen, known, no_rows, same_kinds, Walked, Point, nothing}
use Rattle.hera_typed.specs.Effects.{Body_note, Goal, home, gathered_by, effect, is_placed}
use Rattle.hera_typed.specs.Typed.{Points, Does, Leads, IsFlowTo}
use Rattle.hera_codegen.proofs.Places.{HasAt}
use Rattle.hera_codegen.proofs.Depth.{has_self}
use Rattle.hera_typed.specs.Pass.{same_seen, all_same, same_walks, same_point, Found, with_point, with_broken, Passed, stopped, through, starts_at, begun_with, passed_on, pass_from, pass, broken_behind, PassIsExact, fails, meets_point, follows_point, follow, follow_next, follow_all, follow_ways, from_point, gathers_behind, behind_walk, step_at, step, Breaks as BreaksAt, IsLeast}
use Rattle.hera_typed.proofs.Asking.{some_is, none_is}
use Rattle.hera_typed.proofs.Seen_values.{kinds_same, form_same, kinds_itself, form_itself}
use Rattle.hera_typed.proofs.Charts.{In, Chart, followed_way, new_way, marked_way, none_there, other_home, no_point, other_point, agrees, IsDone, meets, real_way, no_effect, complete, one_effect}

-- ---- the same point

seen_itself : (s : Seen) → same_seen s s ≡ true
seen_itself (known f) = form_itself f
seen_itself no_rows = refl

all_itself : (ss : List Seen) → all_same ss ss ≡ true
all_itself [] = refl
all_itself (s ∷ ss) = and_from (same_seen s s) (all_same ss ss) (seen_itself s) (all_itself ss)

walks_itself : (ws : List Walked) → same_walks ws ws ≡ true
walks_itself [] = refl
walks_itself (w ∷ ws) = and_from (same_seen w.over w.over && same_kinds w.gathers w.gathers) (same_walks ws ws) (and_from (same_seen w.over w.over) (same_kinds w.gathers w.gathers) (seen_itself w.over) (kinds_itself w.gathers)) (walks_itself ws)

point_itself : (p : Point) → same_point p p ≡ true
point_itself p = and_from (all_same p.operands p.operands) _ (all_itself p.operands) (and_from (same_walks p.walks p.walks) (nat_eq p.layers p.layers) (walks_itself p.walks) (eq-eqb p.layers p.layers refl))

seen_same : (s t : Seen) → same_seen s t ≡ true → s ≡ t
seen_same (known f) (known g) e = ap known (form_same f g e)
seen_same (known f) no_rows e = absurd (false≢true e)
seen_same no_rows (known g) e = absurd (false≢true e)
seen_same no_rows no_rows e = refl

seens_same : (ss ts : List Seen) → all_same ss ts ≡ true → ss ≡ ts
seens_same [] [] e = refl
seens_same [] (t ∷ ts) e = absurd (false≢true e)
seens_same (s ∷ ss) [] e = absurd (false≢true e)
seens_same (s ∷ ss) (t ∷ ts) e = let p = and_parts (same_seen s t) (all_same ss ts) e in ap (λ x. x ∷ ss) (seen_same s t p.0) ∙ ap (λ xs. t ∷ xs) (seens_same ss ts p.1)

walk_same : (v w : Walked) → v.over ≡ w.over → v.gathers ≡ w.gathers → v ≡ w
walk_same v w e f = ap (λ (o : Seen). record { over = o; gathers = v.gathers }) e ∙ ap (λ (ks : List Kind). record { over = w.over; gathers = ks }) f

walks_same : (vs ws : List Walked) → same_walks vs ws ≡ true → vs ≡ ws
walks_same [] [] e = refl
walks_same [] (t ∷ ts) e = absurd (false≢true e)
walks_same (s ∷ ss) [] e = absurd (false≢true e)
walks_same (v ∷ vs) (w ∷ ws) e =
    let p = and_parts (same_seen v.over w.over && same_kinds v.gathers w.gathers) (same_walks vs ws) e in
    let q = and_parts (same_seen v.over w.over) (same_kinds v.gathers w.gathers) p.0 in
    ap (λ x. x ∷ vs) (walk_same v w (seen_same v.over w.over q.0) (kinds_same v.gathers w.gathers q.1)) ∙ ap (λ xs. w ∷ xs) (walks_same vs ws p.1)

pub point_same : (p q : Point) → same_point p q ≡ true → p ≡ q
point_same p q e =
    let a = and_parts (all_same p.operands q.operands) (same_walks p.walks q.walks && nat_eq p.layers q.layers) e in
    let b = and_parts (same_walks p.walks q.walks) (nat_eq p.layers q.layers) a.1 in
    ap (λ (ss : List Seen). record { operands = ss; walks = p.walks; layers = p.layers }) (seens_same p.operands q.operands a.0)
    ∙ ap (λ (ws : List Walked). record { operands = q.operands; walks = ws; layers = p.layers }) (walks_same p.walks q.walks b.0)
    ∙ ap (λ (n : ℕ). record { operands = q.operands; walks = q.walks; layers = n }) (eqb-true p.layers q.layers b.1)

pub point_differs : (p q : Point) → same_point p q ≡ false → p ≡ q → ⊥
point_differs p q e same = false≢true (sym e ∙ ap (same_point p) (sym same) ∙ point_itself p)

below : (c a : ℕ) → c ≤ a → (c ≡ a → ⊥) → c < a
below c a le ne = omega (arith, le, ne)

module _ (code : Code) (rels : List RelDecl) (hosts : Hosts) (notes : List Body_note) where
  abbrev Ways : Type 1
  Ways = ℕ → Goal → Type 0

  abbrev Ch : Ways → Found → Type 0
  Ch S f = Chart code rels hosts notes S f.points f.broken

  abbrev More : Ways → ℕ → Goal → Ways
  More S a g c h = S c h ⊎ ((c ≡ a) × (h ≡ g))

  abbrev Real : ℕ → Goal → Type 0
  Real a g = (P : Points) (n : ℕ) → IsFlowTo code rels hosts notes P n → a ≤ n → g.to ≤ n → Leads code rels hosts notes P a g

  abbrev Breaks : ℕ → Type 0
  Breaks a = BreaksAt code rels hosts notes a

  abbrev Source : Found → ℕ → Goal → Type 0
  Source f a g = (p : Point) × (gs : List Goal) × (f.points a ≡ Some p) × Does code rels hosts notes a p gs × In g gs

  -- after a way: found on, with the points up to a as they were and nothing of them broken; or a breaks
  abbrev pub After : Ways → ℕ → Goal → Found → Option Found → Type 0
  After S a g f None = Breaks a
  After S a g f (Some h) = Ch (More S a g) h × ((c : ℕ) → c ≤ a → (h.points c ≡ f.points c) × (h.broken c ≡ f.broken c))

  module _ (S : Ways) (f : Found) (chart : Ch S f) (a : ℕ) (g : Goal) (real : Real a g) (source : Source f a g) (clear : (c : ℕ) → c ≤ a → f.broken c ≡ false) where
    same_below : (c : ℕ) → c ≤ a → (f.points c ≡ f.points c) × (f.broken c ≡ f.broken c)
    same_below c le = (refl, refl)

    other : (c : ℕ) → c ≤ a → a < g.to → nat_eq c g.to ≡ false
    other c le lt = ne_eqb c g.to (λ e. omega (arith, le, lt, e))

    -- the way is no good: what it leads to is broken, or a itself
    fails_so : ((P : Points) → IsFlowTo code rels hosts notes P g.to → a ≤ g.to → ⊥) → ((P : Points) → IsFlowTo code rels hosts notes P a → g.to ≤ a → ⊥) → After S a g f (fails code rels hosts notes a g.to f)
    fails_so ahead back = by (nat_lt a g.to) refl
      where
        by : (t : Bool) → nat_lt a g.to ≡ t → After S a g f (cond t (Some (with_broken g.to f)) None)
        by true e =
            let lt : a < g.to = ltb-true a g.to e in
            let le : a ≤ g.to = omega (arith, lt) in (
              marked_way code rels hosts notes S f.points f.broken chart a g real source (λ P flow. ahead P flow le),
              λ c low. (refl, ap (λ t. cond t true (f.broken c)) (other c low lt)),
            )
        by false e = let le : g.to ≤ a = ltb-false a g.to e in λ P flow. back P flow le

    -- against points that meet the rules up to a
    at_a : (P : Points) → IsFlowTo code rels hosts notes P a → g.to ≤ a → Leads code rels hosts notes P a g
    at_a P flow le = let low : a ≤ a = omega arith in real P a flow low le

    meets_so : (q : Point) → g.to < length code.instrs → home code g.to ≡ home code a → g.point ≡ Some q → ((P : Points) → IsFlowTo code rels hosts notes P a → g.to ≤ a → f.points g.to ≡ None → ⊥) →
        (o : Option Point) → f.points g.to ≡ o → After S a g f (meets_point code rels hosts notes a g.to q o f)
    meets_so q there same is back None e = by (nat_lt a g.to) refl
      where
        by : (t : Bool) → nat_lt a g.to ≡ t → After S a g f (cond t (Some (with_point g.to q f)) None)
        by true l =
            let lt : a < g.to = ltb-true a g.to l in (
              new_way code rels hosts notes S f.points f.broken chart a g q real source lt there same is e,
              λ c low. (ap (λ t. cond t (Some q) (f.points c)) (other c low lt), refl),
            )
        by false l = let le : g.to ≤ a = ltb-false a g.to l in λ P flow. back P flow le e
    meets_so q there same is back (Some r) e = by (same_point q r) refl
      where
        by : (t : Bool) → same_point q r ≡ t → After S a g f (cond t (Some f) (fails code rels hosts notes a g.to f))
        by true l = (
          followed_way code rels hosts notes S f.points f.broken chart a g real source (record { there = there; home_is = same; point = q; goal_is = is; point_is = e ∙ ap (λ (p : Point). Some p) (sym (point_same q r l)) }),
          same_below,
        )
        by false l = fails_so (λ P flow le. other_point code rels hosts notes S f.points f.broken chart a g q r real le is e (point_differs q r l) P flow)
            (λ P flow le. (let lead = at_a P flow le in
            let found : P g.to ≡ Some r = agrees code rels hosts notes S f.points f.broken chart g.to r e (clear g.to le) P a flow le in
            point_differs q r l (some_is q r (sym is ∙ lead.goal_is ∙ sym lead.point_is ∙ found))))

    pub follow_keeps : ((P : Points) → IsFlowTo code rels hosts notes P a → g.to ≤ a → f.points g.to ≡ None → ⊥) → After S a g f (follow code rels hosts notes a g f)
    follow_keeps back = by (nat_lt g.to (length code.instrs)) (nat_eq (home code g.to) (home code a)) refl refl
      where
        by_point : g.to < length code.instrs → home code g.to ≡ home code a → (o : Option Point) → g.point ≡ o → After S a g f (follows_point code rels hosts notes a g.to o f)
        by_point there same None e = fails_so (λ P flow le. no_point code rels hosts notes S f.points f.broken chart a g real le e P flow) (λ P flow le. (let lead = at_a P flow le in none_is ⊥ lead.point (sym e ∙ lead.goal_is)))
        by_point there same (Some q) e = meets_so q there same e back (f.points g.to) refl

        by : (t u : Bool) → nat_lt g.to (length code.instrs) ≡ t → nat_eq (home code g.to) (home code a) ≡ u → After S a g f (cond (t && u) (follows_point code rels hosts notes a g.to g.point f) (fails code rels hosts notes a g.to f))
        by true true e l = by_point (ltb-true g.to (length code.instrs) e) (eqb-true (home code g.to) (home code a) l) g.point refl
        by true false e l =
            let differ = eqb-false (home code g.to) (home code a) l in
            fails_so (λ P flow le. other_home code rels hosts notes S f.points f.broken chart a g real le differ P flow) (λ P flow le. differ (at_a P flow le).home_is)
        by false u e l =
            let past : length code.instrs ≤ g.to = ltb-false g.to (length code.instrs) e in
            let out : g.to < length code.instrs → ⊥ = λ lt. omega (arith, lt, past) in
            fails_so (λ P flow le. none_there code rels hosts notes S f.points f.broken chart a g real le out P flow) (λ P flow le. out (at_a P flow le).there)

  -- ---- one address

  abbrev Done : (S : Ways) (f : Found) → Ch S f → ℕ → Type 0
  Done S f chart a = IsDone code rels hosts notes S f.points f.broken chart a

  -- the pass has come to address a
  pub record Standing (a : ℕ) (f : Found) : Type 1 where
    pub ways : Ways
    pub chart : Ch ways f
    pub done : Done ways f chart a
    pub low : (c : ℕ) (g : Goal) → ways c g → c < a

  pub record Stopped (a : ℕ) : Type 1 where
    pub breaks : Breaks a

  -- after the ways from a to these
  pub record Follows (S : Ways) (a : ℕ) (f h : Found) (gs : List Goal) : Type 1 where
    pub ways : Ways
    pub chart : Ch ways h
    pub done : Done ways h chart a
    pub more : (c : ℕ) (g : Goal) → S c g → ways c g
    pub all : (g : Goal) → In g gs → ways a g
    pub low : (c : ℕ) (g : Goal) → ways c g → S c g ⊎ (c ≡ a)
    pub kept : (c : ℕ) → c ≤ a → (h.points c ≡ f.points c) × (h.broken c ≡ f.broken c)

  abbrev FollowsOr : Ways → ℕ → Found → List Goal → Option Found → Type 1
  FollowsOr S a f gs None = Stopped a
  FollowsOr S a f gs (Some h) = Follows S a f h gs

  done_kept : (S U : Ways) (f h : Found) (chart : Ch S f) (chart' : Ch U h) (a : ℕ) → ((c : ℕ) (g : Goal) → S c g → U c g) → ((c : ℕ) → c ≤ a → (h.points c ≡ f.points c) × (h.broken c ≡ f.broken c)) → Done S f chart a → Done U h chart' a
  done_kept S U f h chart chart' a more kept done = record {
    placed = done.placed;
    followed = done.followed;
    goes = λ c p e lt. (let g = done.goes c p (sym (kept c (omega (arith, lt))).0 ∙ e) lt in (g.0, g.1, λ x i. more c x (g.2 x i)));
    clear = λ c lt. (kept c (omega (arith, lt))).1 ∙ done.clear c lt;
  }

  ways_keep : (S : Ways) (f : Found) (chart : Ch S f) (a : ℕ) (p : Point) (all gs : List Goal) → Done S f chart a → f.broken a ≡ false → f.points a ≡ Some p → Does code rels hosts notes a p all → ((g : Goal) → In g gs → In g all) → FollowsOr S a f gs (follow_all code rels hosts notes a gs f)
  ways_keep S f chart a p all [] done clear at does sub = record { ways = S; chart = chart; done = done; more = λ c g s. s; all = λ g i. absurd i; low = λ c g s. inl s; kept = λ c le. (refl, refl) }
  ways_keep S f chart a p all (g ∷ gs) done clear at does sub =
      by (follow code rels hosts notes a g f)
      (follow_keeps S f chart a g (real_way code rels hosts notes S f.points f.broken chart a p all g at clear does (sub g (inl refl))) (p, all, at, does, sub g (inl refl)) all_clear back)
      (λ U h chart' done' clear' at'. ways_keep U h chart' a p all gs done' clear' at' does (λ x i. sub x (inr i)))
    where
      all_clear : (c : ℕ) → c ≤ a → f.broken c ≡ false
      all_clear c le = by_eq (nat_eq c a) refl
        where
          by_eq : (t : Bool) → nat_eq c a ≡ t → f.broken c ≡ false
          by_eq true e = ap f.broken (eqb-true c a e) ∙ clear
          by_eq false e = let ne = eqb-false c a e in done.clear c (below c a le ne)

      back : (P : Points) → IsFlowTo code rels hosts notes P a → g.to ≤ a → f.points g.to ≡ None → ⊥
      back P flow le none = by_eq (nat_eq g.to a) refl
        where
          low : a ≤ a
          low = omega arith

          lead : Leads code rels hosts notes P a g
          lead = real_way code rels hosts notes S f.points f.broken chart a p all g at clear does (sub g (inl refl)) P a flow low le

          by_eq : (t : Bool) → nat_eq g.to a ≡ t → ⊥
          by_eq true e = none_is ⊥ p (sym none ∙ ap f.points (eqb-true g.to a e) ∙ at)
          by_eq false e =
              let lt : g.to < a = below g.to a le (eqb-false g.to a e) in
              let same : g.to ≤ g.to = omega arith in
              none_is ⊥ lead.point (sym none ∙ complete code rels hosts notes S f.points f.broken chart a done P a flow g.to lt le g.to same lead.point lead.point_is)

      by : (o : Option Found) → After S a g f o → ((U : Ways) (h : Found) (chart' : Ch U h) → Done U h chart' a → h.broken a ≡ false → h.points a ≡ Some p → FollowsOr U a h gs (follow_all code rels hosts notes a gs h)) →
          FollowsOr S a f (g ∷ gs) (follow_next code rels hosts notes (λ f. follow_all code rels hosts notes a gs f) o)
      by None h ih = record { breaks = h }
      by (Some h) k ih =
          let low : a ≤ a = omega arith in
          let d = done_kept S (More S a g) f h chart k.0 a (λ c x s. inl s) k.1 done in
          last h (follow_all code rels hosts notes a gs h) k.1 (ih (More S a g) h k.0 d ((k.1 a low).1 ∙ clear) ((k.1 a low).0 ∙ at))
        where
          last : (h : Found) (o : Option Found) → ((c : ℕ) → c ≤ a → (h.points c ≡ f.points c) × (h.broken c ≡ f.broken c)) → FollowsOr (More S a g) a h gs o → FollowsOr S a f (g ∷ gs) o
          last h None kept r = record { breaks = r.breaks }
          last h (Some j) kept r = record {
            ways = r.ways;
            chart = r.chart;
            done = r.done;
            more = λ c x s. r.more c x (inl s);
            all = λ x i. each x i;
            low = λ c x s. lower c x (r.low c x s);
            kept = λ c le. ((r.kept c le).0 ∙ (kept c le).0, (r.kept c le).1 ∙ (kept c le).1);
          }
            where
              lower : (c : ℕ) (x : Goal) → (S c x ⊎ ((c ≡ a) × (x ≡ g))) ⊎ (c ≡ a) → S c x ⊎ (c ≡ a)
              lower c x (inl (inl s)) = inl s
              lower c x (inl (inr e)) = inr e.0
              lower c x (inr e) = inr e

              each : (x : Goal) → In x (g ∷ gs) → r.ways a x
              each x (inl e) = r.more a x (inr (refl, e))
              each x (inr i) = r.all x i

  abbrev StandsOr : ℕ → Option Found → Type 1
  StandsOr a None = Stopped a
  StandsOr a (Some h) = Standing (suc a) h

  -- a Walk before this address is not followed as it should be
  walk_breaks : (b : ℕ) → behind_walk code rels hosts notes b ≡ false → (P : Points) → IsFlowTo code rels hosts notes P b → ⊥
  walk_breaks zero e P flow = false≢true (sym e)
  walk_breaks (suc d) e P flow = by_instr (slice_get code.instrs d) refl e
    where
      by_instr : (o : Option Instr) → slice_get code.instrs d ≡ o → gathers_behind code rels hosts notes d o ≡ false → ⊥
      by_instr (Some Walk) w e = let le : d + 1 ≤ suc d = omega arith in false≢true (sym e ∙ flow.followed d w le)
      by_instr o w e = absurd (false≢true (sym e))

  -- the pass goes on, or stops where nothing meets the rules up to the address
  pub step_keeps : (a : ℕ) (i : Instr) (f : Found) → slice_get code.instrs a ≡ Some i → Standing a f → StandsOr a (step code rels hosts notes a i f)
  step_keeps a i f here st = by (f.broken a) (behind_walk code rels hosts notes a) refl refl
    where
      low : a ≤ a
      low = omega arith

      -- the rule on what stands behind a Walk
      walk_said : (b : ℕ) → behind_walk code rels hosts notes b ≡ true → (c : ℕ) → c + 1 ≡ b → slice_get code.instrs c ≡ Some Walk → is_some (gathered_by notes (home code c) (slice_get code.instrs (c + 1))) ≡ true
      walk_said zero e c q w = absurd (omega (arith, q))
      walk_said (suc d) e c q w =
          let same : d ≡ c = omega (arith, q) in
          subst (λ c. is_some (gathered_by notes (home code c) (slice_get code.instrs (c + 1))) ≡ true) same (sym (ap (gathers_behind code rels hosts notes d) (ap (slice_get code.instrs) same ∙ w)) ∙ e)

      next_done : (S : Ways) (h : Found) (chart : Ch S h) → Done S h chart a → is_placed code notes (home code a) a i ≡ true → behind_walk code rels hosts notes a ≡ true → h.broken a ≡ false → ((p : Point) → h.points a ≡ Some p → (gs : List Goal) × Does code rels hosts notes a p gs × ((g : Goal) → In g gs → S a g)) → Done S h chart (suc a)
      next_done S h chart done ok walk clear goes = record {
        placed = λ c j e lt. placed c j e lt (nat_eq c a) refl;
        followed = λ c e lt. followed c e lt (nat_eq (c + 1) a) refl;
        goes = λ c p e lt. gone c p e lt (nat_eq c a) refl;
        clear = λ c lt. cleared c lt (nat_eq c a) refl;
      }
        where
          placed : (c : ℕ) (j : Instr) → slice_get code.instrs c ≡ Some j → c < suc a → (t : Bool) → nat_eq c a ≡ t → is_placed code notes (home code c) c j ≡ true
          placed c j e lt true q =
              let same = eqb-true c a q in
              let j_is : i ≡ j = some_is i j (sym here ∙ ap (slice_get code.instrs) (sym same) ∙ e) in
              subst (λ c. is_placed code notes (home code c) c j ≡ true) (sym same) (subst (λ j. is_placed code notes (home code a) a j ≡ true) j_is ok)
          placed c j e lt false q = let le : c ≤ a = omega (arith, lt) in done.placed c j e (below c a le (eqb-false c a q))

          followed : (c : ℕ) → slice_get code.instrs c ≡ Some Walk → c + 1 < suc a → (t : Bool) → nat_eq (c + 1) a ≡ t → is_some (gathered_by notes (home code c) (slice_get code.instrs (c + 1))) ≡ true
          followed c e lt true q = walk_said a walk c (eqb-true (c + 1) a q) e
          followed c e lt false q = let le : c + 1 ≤ a = omega (arith, lt) in done.followed c e (below (c + 1) a le (eqb-false (c + 1) a q))

          gone : (c : ℕ) (p : Point) → h.points c ≡ Some p → c < suc a → (t : Bool) → nat_eq c a ≡ t → (gs : List Goal) × Does code rels hosts notes c p gs × ((g : Goal) → In g gs → S c g)
          gone c p e lt true q = let same = eqb-true c a q in subst (λ c. (gs : List Goal) × Does code rels hosts notes c p gs × ((g : Goal) → In g gs → S c g)) (sym same) (goes p (ap h.points (sym same) ∙ e))
          gone c p e lt false q = let le : c ≤ a = omega (arith, lt) in done.goes c p e (below c a le (eqb-false c a q))

          cleared : (c : ℕ) → c < suc a → (t : Bool) → nat_eq c a ≡ t → h.broken c ≡ false
          cleared c lt true q = ap h.broken (eqb-true c a q) ∙ clear
          cleared c lt false q = let le : c ≤ a = omega (arith, lt) in done.clear c (below c a le (eqb-false c a q))

      by_point : f.broken a ≡ false → behind_walk code rels hosts notes a ≡ true → is_placed code notes (home code a) a i ≡ true → (o : Option Point) → f.points a ≡ o → StandsOr a (from_point code rels hosts notes a i o f)
      by_point clear walk ok None at = record { ways = st.ways; chart = st.chart; done = next_done st.ways f st.chart st.done ok walk clear (λ p e. none_is _ p (sym at ∙ e)); low = λ c g s. (let lt : c < a = st.low c g s in omega (arith, lt)) }
      by_point clear walk ok (Some p) at = by_effect (effect code rels hosts notes (home code a) a i p) refl
        where
          by_effect : (o : Option (List Goal)) → effect code rels hosts notes (home code a) a i p ≡ o → StandsOr a (follow_ways code rels hosts notes a o f)
          by_effect None e = record { breaks = no_effect code rels hosts notes st.ways f.points f.broken st.chart a p at clear (λ gs d. none_is ⊥ gs (sym e ∙ ap (λ j. effect code rels hosts notes (home code a) a j p) (some_is i d.instr (sym here ∙ d.here)) ∙ d.does)) }
          by_effect (Some gs) e = last (follow_all code rels hosts notes a gs f) (ways_keep st.ways f st.chart a p gs gs st.done clear at does (λ g i. i))
            where
              does : Does code rels hosts notes a p gs
              does = record { instr = i; here = here; does = e }

              last : (o : Option Found) → FollowsOr st.ways a f gs o → StandsOr a o
              last None r = record { breaks = r.breaks }
              last (Some h) r =
                  let k = r.kept a (omega arith) in
                  record { ways = r.ways; chart = r.chart; done = next_done r.ways h r.chart r.done ok walk (k.1 ∙ clear) (λ q q_at. at_point q (some_is p q (sym at ∙ sym k.0 ∙ q_at))); low = λ c g s. lower c g (r.low c g s) }
                where
                  lower : (c : ℕ) (g : Goal) → st.ways c g ⊎ (c ≡ a) → c < suc a
                  lower c g (inl s) = let lt : c < a = st.low c g s in omega (arith, lt)
                  lower c g (inr e) = omega (arith, e)

                  at_point : (q : Point) → p ≡ q → (gs : List Goal) × Does code rels hosts notes a q gs × ((g : Goal) → In g gs → r.ways a g)
                  at_point q same = subst (λ q. (gs : List Goal) × Does code rels hosts notes a q gs × ((g : Goal) → In g gs → r.ways a g)) same (gs, does, r.all)

      by_placed : f.broken a ≡ false → behind_walk code rels hosts notes a ≡ true → (t : Bool) → is_placed code notes (home code a) a i ≡ t → StandsOr a (cond t (from_point code rels hosts notes a i (f.points a) f) None)
      by_placed clear walk true ok = by_point clear walk ok (f.points a) refl
      by_placed clear walk false ok = record { breaks = λ P flow. false≢true (sym ok ∙ flow.placed a i here (omega arith)) }

      by : (t u : Bool) → f.broken a ≡ t → behind_walk code rels hosts notes a ≡ u → StandsOr a (cond (not t && u) (step_at code rels hosts notes a i f) None)
      by true u e w = record { breaks = λ P flow. st.chart.broken a e P flow }
      by false false e w = record { breaks = λ P flow. walk_breaks a w P flow }
      by false true e w = by_placed e w (is_placed code notes (home code a) a i) refl

  -- so the rules up to below the address where it stopped are met
  pub standing_meets : (a n : ℕ) (f : Found) → Standing a f → n < a → IsFlowTo code rels hosts notes f.points n
  standing_meets a n f st lt = meets code rels hosts notes st.ways f.points f.broken st.chart a n st.done lt

  -- ---- without a choice of ways: all those from addresses below a

  abbrev pub All_ways : ℕ → Found → Ways
  All_ways a f c g = (c < a) × (p : Point) × (gs : List Goal) × (f.points c ≡ Some p) × Does code rels hosts notes c p gs × In g gs

  pub record IsStanding (a : ℕ) (f : Found) : Type 0 where
    pub chart : Ch (All_ways a f) f
    pub done : Done (All_ways a f) f chart a

  pub stands_so : (a : ℕ) (f : Found) → Standing a f → IsStanding a f
  stands_so a f st = record {
    chart = chart;
    done = record { placed = st.done.placed; followed = st.done.followed; goes = λ c p e lt. (let g = st.done.goes c p e lt in (g.0, g.1, λ x i. (lt, p, g.0, e, g.1, i))); clear = st.done.clear };
  }
    where
      was : (c : ℕ) (g : Goal) → All_ways a f c g → st.ways c g
      was c g w =
          let q = st.done.goes c w.1 w.3 w.0 in
          q.2 g (subst (λ gs. In g gs) (one_effect code rels hosts notes c w.1 q.0 w.2 q.1 w.4) w.5)

      chart : Ch (All_ways a f) f
      chart = record {
        starts = st.chart.starts;
        few = st.chart.few;
        handled = λ c g w. st.chart.handled c g (was c g w);
        source = λ c g w. (w.1, w.2, w.3, w.4, w.5);
        reached = λ b p e. by b p (st.chart.reached b p e);
        broken = st.chart.broken;
        real = λ c g w. st.chart.real c g (was c g w);
      }
        where
          by : (b : ℕ) (p : Point) → ((k : ℕ) × (i : BodyInfo) × (slice_get code.bodies k ≡ Some i) × (i.at ≡ b)) ⊎ ((c : ℕ) × (g : Goal) × st.ways c g × (g.to ≡ b) × (c < b)) →
              ((k : ℕ) × (i : BodyInfo) × (slice_get code.bodies k ≡ Some i) × (i.at ≡ b)) ⊎ ((c : ℕ) × (g : Goal) × All_ways a f c g × (g.to ≡ b) × (c < b))
          by b p (inl s) = inl s
          by b p (inr w) = let s = st.chart.source w.0 w.1 w.2 in inr (w.0, w.1, (st.low w.0 w.1 w.2, s.0, s.1, s.2, s.3, s.4), w.3, w.4)

  standing_of : (a : ℕ) (f : Found) → IsStanding a f → Standing a f
  standing_of a f st = record { ways = All_ways a f; chart = st.chart; done = st.done; low = λ c g w. w.0 }

  -- ---- the pass, for a loop

  pub pass_on : (a : ℕ) (i : Instr) (f h : Found) → slice_get code.instrs a ≡ Some i → IsStanding a f → step code rels hosts notes a i f ≡ Some h → IsStanding (suc a) h
  pass_on a i f h here st e = stands_so (suc a) h (subst (λ o. StandsOr a o) e (step_keeps a i f here (standing_of a f st)))

  pub pass_stops : (a : ℕ) (i : Instr) (f : Found) → slice_get code.instrs a ≡ Some i → IsStanding a f → step code rels hosts notes a i f ≡ None → IsLeast code rels hosts notes a
  pass_stops a i f here st e = record {
    breaks = (subst (λ o. StandsOr a o) e (step_keeps a i f here (standing_of a f st))).breaks;
    met = λ n lt. (f.points, standing_meets a n f (standing_of a f st) lt);
  }

  -- before the first address
  pub pass_begins : (f : Found) → ((c : ℕ) → f.broken c ≡ false) → ((k : ℕ) (b : BodyInfo) → slice_get code.bodies k ≡ Some b → b.at < length code.instrs → f.points b.at ≡ Some nothing) → ((c : ℕ) (p : Point) → f.points c ≡ Some p → c < length code.instrs) →
      ((c : ℕ) (p : Point) → f.points c ≡ Some p → (k : ℕ) × (b : BodyInfo) × (slice_get code.bodies k ≡ Some b) × (b.at ≡ c)) → IsStanding 0 f
  pass_begins f clear starts few only = record {
    chart = record {
      starts = starts;
      few = few;
      handled = λ c g w. absurd (omega (arith, w.0));
      source = λ c g w. (w.1, w.2, w.3, w.4, w.5);
      reached = λ b p e. inl (only b p e);
      broken = λ b e. absurd (false≢true (sym (clear b) ∙ e));
      real = λ c g w. absurd (omega (arith, w.0));
    };
    done = record {
      placed = λ c i e lt. absurd (omega (arith, lt));
      followed = λ c e lt. absurd (omega (arith, lt));
      goes = λ c p e lt. absurd (omega (arith, lt));
      clear = λ c lt. absurd (omega (arith, lt));
    };
  }

  -- behind the last address, where nothing is broken and no Walk stands last
  pub pass_ends : (f : Found) → IsStanding (length code.instrs) f → (n : ℕ) → ((c : ℕ) → length code.instrs ≤ c → c ≤ n → f.broken c ≡ false) → (length code.instrs ≤ n → behind_walk code rels hosts notes (length code.instrs) ≡ true) →
      IsFlowTo code rels hosts notes f.points n
  pass_ends f st n clear walk = meets code rels hosts notes (All_ways L f) f.points f.broken st.chart (suc n) n done (omega arith)
    where
      L : ℕ
      L = length code.instrs

      inside : {A : Type 0} (xs : List A) (c : ℕ) (x : A) → slice_get xs c ≡ Some x → c < length xs
      inside [] c x e = cc
      inside (y ∷ xs) zero x e = omega arith
      inside (y ∷ xs) (suc c) x e = let lt : c < length xs = inside xs c x e in omega (arith, lt)

      walk_last : (c : ℕ) → slice_get code.instrs c ≡ Some Walk → c + 1 ≡ L → L ≤ n → is_some (gathered_by notes (home code c) (slice_get code.instrs (c + 1))) ≡ true
      walk_last c e q le = sym (ap (gathers_behind code rels hosts notes c) e) ∙ subst (λ n. behind_walk code rels hosts notes n ≡ true) (sym q ∙ one c) (walk le)
        where
          one : (c : ℕ) → c + 1 ≡ suc c
          one c = omega arith

      followed : (c : ℕ) → slice_get code.instrs c ≡ Some Walk → c + 1 < suc n → (t : Bool) → nat_eq (c + 1) L ≡ t → is_some (gathered_by notes (home code c) (slice_get code.instrs (c + 1))) ≡ true
      followed c e low true q = let last = eqb-true (c + 1) L q in walk_last c e last (omega (arith, low, last))
      followed c e low false q = let lt : c < L = inside code.instrs c Walk e in let ne = eqb-false (c + 1) L q in let le : c + 1 ≤ L = omega (arith, lt) in st.done.followed c e (below (c + 1) L le ne)

      cleared : (c : ℕ) → c < suc n → (t : Bool) → nat_lt c L ≡ t → f.broken c ≡ false
      cleared c low true q = st.done.clear c (ltb-true c L q)
      cleared c low false q = clear c (ltb-false c L q) (omega (arith, low))

      done : Done (All_ways L f) f st.chart (suc n)
      done = record {
        placed = λ c i e lt. st.done.placed c i e (inside code.instrs c i e);
        followed = λ c e lt. followed c e lt (nat_eq (c + 1) L) refl;
        goes = λ c p e lt. st.done.goes c p e (st.chart.few c p e);
        clear = λ c lt. cleared c lt (nat_lt c L) refl;
      }

  -- ---- the whole pass

  starts_here : (bs : List BodyInfo) (k : ℕ) (b : BodyInfo) → slice_get bs k ≡ Some b → starts_at code rels hosts notes bs b.at ≡ true
  starts_here [] k b e = none_is _ b e
  starts_here (c ∷ bs) zero b e = or_left (nat_eq c.at b.at) (starts_at code rels hosts notes bs b.at) (eq-eqb c.at b.at (ap (λ (b : BodyInfo). b.at) (some_is c b e)))
  starts_here (c ∷ bs) (suc k) b e = or_right (nat_eq c.at b.at) (starts_at code rels hosts notes bs b.at) (starts_here bs k b e)

  starts_from : (bs : List BodyInfo) (a : ℕ) → starts_at code rels hosts notes bs a ≡ true → (k : ℕ) × (b : BodyInfo) × (slice_get bs k ≡ Some b) × (b.at ≡ a)
  starts_from [] a e = absurd (false≢true e)
  starts_from (c ∷ bs) a e = by (nat_eq c.at a) refl e (λ q. starts_from bs a q)
    where
      by : (t : Bool) → nat_eq c.at a ≡ t → (t || starts_at code rels hosts notes bs a) ≡ true → (starts_at code rels hosts notes bs a ≡ true → (k : ℕ) × (b : BodyInfo) × (slice_get bs k ≡ Some b) × (b.at ≡ a)) →
          (k : ℕ) × (b : BodyInfo) × (slice_get (c ∷ bs) k ≡ Some b) × (b.at ≡ a)
      by true q e ih = (0, c, refl, eqb-true c.at a q)
      by false q e ih = let r = ih e in (suc r.0, r.1, r.2, r.3)

  known_there : (a : ℕ) (p : Point) (t : Bool) → cond t (Some nothing) None ≡ Some p → t ≡ true
  known_there a p true e = refl
  known_there a p false e = none_is _ p e

  abbrev Begun : Found
  Begun = begun_with code rels hosts notes

  begins : IsStanding 0 Begun
  begins = pass_begins Begun (λ c. refl)
      (λ k b e lt. ap (λ t. cond t (Some nothing) None) (and_from (starts_at code rels hosts notes code.bodies b.at) (nat_lt b.at (length code.instrs)) (starts_here code.bodies k b e) (lt-ltb b.at (length code.instrs) lt)))
      (λ c p e. ltb-true c (length code.instrs) (and_parts (starts_at code rels hosts notes code.bodies c) (nat_lt c (length code.instrs)) (known_there c p _ e)).1)
      (λ c p e. starts_from code.bodies c (and_parts (starts_at code rels hosts notes code.bodies c) (nat_lt c (length code.instrs)) (known_there c p _ e)).0)

  abbrev Ends : Passed → Type 0
  Ends (stopped a) = IsLeast code rels hosts notes a
  Ends (through f) = IsStanding (length code.instrs) f

  goes_through : (a : ℕ) (is : List Instr) (f : Found) → HasAt code.instrs a is → a + length is ≡ length code.instrs → IsStanding a f → Ends (pass_from code rels hosts notes a is f)
  goes_through a [] f has long st = let e : a ≡ length code.instrs = omega (arith, long) in subst (λ n. IsStanding n f) e st
  goes_through a (i ∷ is) f has long st = by (step code rels hosts notes a i f) refl (λ h q. goes_through (suc a) is h next (omega (arith, long)) (pass_on a i f h has.0 st q))
    where
      next : HasAt code.instrs (suc a) is
      next = let e : a + 1 ≡ suc a = omega arith in subst (λ n. HasAt code.instrs n is) e has.1

      by : (o : Option Found) → step code rels hosts notes a i f ≡ o → ((h : Found) → step code rels hosts notes a i f ≡ Some h → Ends (pass_from code rels hosts notes (suc a) is h)) →
          Ends (passed_on code rels hosts notes a (λ f. pass_from code rels hosts notes (suc a) is f) o)
      by None q go = pass_stops a i f has.0 st q
      by (Some h) q go = go h q

  ended : Ends (pass code rels hosts notes)
  ended = goes_through 0 code.instrs Begun (has_self code.instrs) (omega arith) begins

  abbrev Behind : Found → ℕ → Bool
  Behind f a = broken_behind code rels hosts notes f a

  abbrev walk_fails : ℕ → Bool
  walk_fails a = nat_eq a (length code.instrs) && not (behind_walk code rels hosts notes a)

  no_break : (t u : Bool) → (t || u) ≡ false → (t ≡ false) × (u ≡ false)
  no_break true u e = absurd (false≢true (sym e))
  no_break false u e = (refl, e)

  not_so : (t : Bool) → not t ≡ true → t ≡ false
  not_so true e = sym e
  not_so false e = refl

  walk_good : (a : ℕ) → a ≡ length code.instrs → walk_fails a ≡ false → behind_walk code rels hosts notes (length code.instrs) ≡ true
  walk_good a same e = subst (λ n. behind_walk code rels hosts notes n ≡ true) same (by (behind_walk code rels hosts notes a) (sym (ap (λ t. t && not (behind_walk code rels hosts notes a)) (eq-eqb a (length code.instrs) same)) ∙ e))
    where
      by : (t : Bool) → not t ≡ false → t ≡ true
      by true e = refl
      by false e = sym e

  flow_to : (f : Found) → IsStanding (length code.instrs) f → (n : ℕ) → ((c : ℕ) → length code.instrs ≤ c → c ≤ n → Behind f c ≡ false) → IsFlowTo code rels hosts notes f.points n
  flow_to f st n clear =
      pass_ends f st n (λ c le high. (no_break (f.broken c) (walk_fails c) (clear c le high)).0)
      (λ le. walk_good (length code.instrs) refl (no_break (f.broken (length code.instrs)) (walk_fails (length code.instrs)) (clear (length code.instrs) (omega arith) le)).1)

  breaks_behind : (f : Found) → IsStanding (length code.instrs) f → (a : ℕ) → Behind f a ≡ true → (P : Points) → IsFlowTo code rels hosts notes P a → ⊥
  breaks_behind f st a bad P flow = by (f.broken a) refl bad
    where
      by : (t : Bool) → f.broken a ≡ t → (t || walk_fails a) ≡ true → ⊥
      by true e q = st.chart.broken a e P flow
      by false e q = walk_breaks a (not_so (behind_walk code rels hosts notes a) (and_parts (nat_eq a (length code.instrs)) (not (behind_walk code rels hosts notes a)) q).1) P flow

  pub pass_exact : PassIsExact code rels hosts notes
  pass_exact = record {
    stops = λ a e. subst Ends e ended;
    behind = λ f a e le bad clear.
        (let st = subst Ends e ended in
        record { breaks = λ P flow. breaks_behind f st a bad P flow; met = λ n lt. (f.points, flow_to f st n (λ c low high. clear c low (omega (arith, high, lt)))) });
    meets = λ f e clear n. flow_to f (subst Ends e ended) n (λ c low high. clear c low);
  }
