-- The code of a sound expression meets the rules, at the points laid out for it.
use Rattle.std.proofs.Common.{◌≡◌, ℕ, zero, suc, ◌+◌, ◌<◌, ◌≤◌, ◌&&◌, ◌||◌, Bool, true, false, List, [], ◌∷◌, ◌++◌, length, Option, Some, refl, sym, ap, ◌∙◌, subst, arith, inl, inr, append_assoc}
use Rattle.std.specs.Prelude.{slice_get, take, nat_eq, nat_lt, nat_le, is_some}
use Rattle.std.proofs.lemmas.Bool.{false≢true, and_from, or_right, lt-ltb, le-leb, eqb-true}
use Rattle.hera_meaning.specs.declared.scalars.Kind.{Kind}
use Rattle.hera_meaning.specs.declared.schemas.RelDecl.{RelDecl}
use Rattle.hera_meaning.specs.declared.hosts.HostSpec.{HostSpec}
use Rattle.hera_meaning.specs.declared.trees.Op.{Op}
use Rattle.hera_meaning.specs.Deltas.{schema_of}
use Rattle.hera_meaning.specs.Hosts.{Hosts, host_at, host_takes, host_gives}
use Rattle.hera_meaning.specs.Fits.{arity, is_good_op}
use Rattle.hera_meaning.specs.Trees.{Expr, constant, local, relation, prim, chain, and_all, or_any, when as when_expr, select, map_each, call, host, Exprs, no_more, then_expr, Links, no_link, link, Hypos, no_hypo, hypo}
use Rattle.hera_meaning.specs.Addresses.{expr_end, exprs_end, links_end, every_last, some_end, hypos_end, hypos_count}
use Rattle.hera_meaning.specs.Forms.{Form, of_scalar, of_tuple, of_table, of_delta, kinds_of, bool_form, OpIsOf}
use Rattle.hera_meaning.specs.Sound.{has_slot, const_form, Scope, IsCallee, IsOf, AreOf, AreBools, LinksAreOf, AreDeltas, IsNotNone}
use Rattle.hera_code.specs.declared.instrs.BodyInfo.{BodyInfo}
use Rattle.hera_code.specs.declared.instrs.Code.{Code}
use Rattle.hera_code.specs.declared.instrs.Instr.{Instr}
use Rattle.hera_code.specs.declared.instrs.Instr.TheVariants.{Push, Load, Rel, Prim, Host, Jump, Unless, Back, Enter, Leave, Walk, Next, Keep, Gather, Yield, Drop, Call}
use Rattle.hera_code.specs.Scheme.{push_bool, leaves, expr_code, exprs_code, every_code, some_code, links_code, hypos_code}
use Rattle.hera_codegen.proofs.Places.{HasAt, has_front, all_behind, here_behind, expr_length, exprs_length, hypos_length}
use Rattle.hera_typed.specs.Points.{Seen, known, agrees, all_agree, Point, with, when, first, Cut, cut}
use Rattle.hera_typed.specs.Effects.{Slot_note, Body_note, Goal, goal, goes, goes_or, with_operands, takes_one, walks_into, opened_point, pushed_result, slot_forms, slot, result, params, is_set_at, gathered_by, seen_by, effect, is_in, is_placed}
use Rattle.hera_typed.specs.Typed.{Points, GoesTo}
use Rattle.hera_typed.proofs.Asking.{some_is, none_is}
use Rattle.hera_noted.proofs.Seen_ops.{Below, is_known, AllBelow, below_agrees, all_below, below_long, op_sees}
use Rattle.hera_noted.proofs.Expr_points.{or_int, form_in, some_kinds, kinds_in, result_in, host_in, push, pushed, walking, deeper, leaves_points, if_so, expr_seen, exprs_seen, links_seen, after, expr_points, exprs_points, every_points, some_points, links_points, hypos_points, expr_many, exprs_many, hypos_many, expr_begins, exprs_begin, every_begins, some_begins, Laid, laid_front, laid_behind, laid_first}
use Rattle.hera_noted.proofs.Expr_ends.{with_pushed, cut_all, bool_seen, table_seen, tuple_is, op_long, expr_up, exprs_up, links_up, hypos_up, some_up, every_up}

module _ (code : Code) (sc : Scope) (notes : List Body_note) (k : ℕ) where
  abbrev rels : List RelDecl
  rels = sc.rels

  abbrev hosts : Hosts
  hosts = sc.hosts

  abbrev seen : Expr → Seen
  seen e = expr_seen rels hosts notes k e

  abbrev all_seen : Exprs → List Seen
  all_seen es = exprs_seen rels hosts notes k es

  abbrev aft : Expr → Point → Point
  aft e p = after rels hosts notes k e p

  abbrev kinds : ℕ → List Kind
  kinds i = kinds_in (slot notes k i)

  -- ---- what the notes have

  pub record IsWalkNote (i from to : ℕ) (ks : List Kind) : Type 0 where
    pub note : Slot_note
    pub there : slot notes k i ≡ Some note
    pub from_is : note.from ≡ from
    pub within : to ≤ note.to
    pub gathers_is : note.gathers ≡ Some ks

  -- the slot of each walk is set in its body, and gathers what the walk does
  abbrev mutual
    pub Noted : Expr → ℕ → Type 0
    Noted (constant c) a = Unit {0}
    Noted (local i) a = Unit {0}
    Noted (relation r) a = Unit {0}
    Noted (prim op args at) a = NotedAll args a
    Noted (chain first links) a = Noted first a × NotedLinks links (expr_end first a)
    Noted (and_all args) a = NotedEvery args a
    Noted (or_any args) a = NotedSome args a
    Noted (when_expr body hypos) a = NotedHypos hypos a × Noted body (hypos_end hypos a)
    Noted (select i of body) a =
        Noted of a × ((ks : List Kind) × (w : IsWalkNote i (expr_end of a + 1 + 1) (expr_end body (expr_end of a + 1 + 1)) ks) × (w.note.form ≡ of_tuple ks)) × Noted body (expr_end of a + 1 + 1)
    Noted (map_each i of body) a =
        Noted of a × ((ks : List Kind) × IsWalkNote i (expr_end of a + 1 + 1) (expr_end body (expr_end of a + 1 + 1)) ks × ((rs : List ℕ) (ls : List Kind) → IsOf sc rs body (of_tuple ls) → ls ≡ ks)) × Noted body (expr_end of a + 1 + 1)
    Noted (call j args) a = NotedAll args a
    Noted (host h args) a = NotedAll args a

    pub NotedAll : Exprs → ℕ → Type 0
    NotedAll no_more a = Unit {0}
    NotedAll (then_expr e es) a = Noted e a × NotedAll es (expr_end e a)

    pub NotedEvery : Exprs → ℕ → Type 0
    NotedEvery no_more a = Unit {0}
    NotedEvery (then_expr e es) a = Noted e a × NotedEvery es (expr_end e a + 1)

    pub NotedSome : Exprs → ℕ → Type 0
    NotedSome no_more a = Unit {0}
    NotedSome (then_expr e es) a = Noted e a × NotedSome es (expr_end e a + 1 + 1 + 1)

    pub NotedLinks : Links → ℕ → Type 0
    NotedLinks no_link a = Unit {0}
    NotedLinks (link op arg at rest) a = Noted arg a × NotedLinks rest (expr_end arg a + 1)

    pub NotedHypos : Hypos → ℕ → Type 0
    NotedHypos no_hypo a = Unit {0}
    NotedHypos (hypo d at rest) a = NotedHypos rest a × Noted d (hypos_end rest a)

  -- a body that may be called, its parameters and its result
  pub record IsCalled (j : ℕ) (fs : List Form) (r : Option Form) : Type 0 where
    pub info : BodyInfo
    pub info_is : slice_get code.bodies j ≡ Some info
    pub note : Body_note
    pub note_is : slice_get notes j ≡ Some note
    pub behind_main : 0 < j
    pub long : length fs ≡ info.params
    pub params_are : fs ≡ take info.params (slot_forms note.slots)
    pub result_is : note.result ≡ r

  -- the notes of this body are of the forms of its scope, and its addresses are in it
  pub record Fits : Type 0 where
    pub slots : (i : ℕ) (f : Form) → slice_get sc.own.slots i ≡ Some f → (n : Slot_note) × (slot notes k i ≡ Some n) × (n.form ≡ f)
    pub calls : (j : ℕ) (func : Bool) (fs : List Form) (r : Option Form) → IsCallee sc j func fs r → IsCalled j fs r

  -- the slots that are readable are set at these addresses
  pub record Covered (rs : List ℕ) (a b : ℕ) : Type 0 where
    pub set : (i c : ℕ) (n : Slot_note) → has_slot rs i ≡ true → slot notes k i ≡ Some n → a ≤ c → c < b → is_set_at code k i c n ≡ true

  -- a Walk is followed by a Next whose slot says what it gathers
  abbrev pub Followed : ℕ → Instr → Type 0
  Followed a Walk = is_some (gathered_by notes k (slice_get code.instrs (a + 1))) ≡ true
  Followed a _ = Unit {0}

  module _ (P : Points) (lo hi : ℕ) where
    -- ---- the rules at an address of the body

    abbrev pub AllGo : List Goal → Type 0
    AllGo [] = Unit {0}
    AllGo (g ∷ gs) = ((lo ≤ g.to) × (g.to ≤ hi) × (q : Point) × (g.point ≡ Some q) × (P g.to ≡ Some q)) × AllGo gs

    pub record Comes (b : ℕ) : Type 0 where
      pub from : ℕ
      pub point : Point
      pub instr : Instr
      pub goals : List Goal
      pub lower : from < b
      pub point_is : P from ≡ Some point
      pub here : slice_get code.instrs from ≡ Some instr
      pub does : effect code rels hosts notes k from instr point ≡ Some goals
      pub comes : GoesTo goals b

    pub record IsFine (a : ℕ) (i : Instr) : Type 0 where
      pub placed : is_placed code notes k a i ≡ true
      pub followed : Followed a i
      pub goes : (q : Point) → P a ≡ Some q → (gs : List Goal) × (effect code rels hosts notes k a i q ≡ Some gs) × AllGo gs
      pub next : (q : Point) → P (a + 1) ≡ Some q → Comes (a + 1)

    abbrev pub Flows : ℕ → List Instr → Type 0
    Flows a [] = Unit {0}
    Flows a (i ∷ is) = IsFine a i × Flows (a + 1) is

    pub flows_more : (a b : ℕ) (xs ys : List Instr) → a + length xs ≡ b → Flows a xs → Flows b ys → Flows a (xs ++ ys)
    flows_more a b [] ys e h g = let q : b ≡ a = omega (arith, e) in subst (λ n. Flows n ys) q g
    flows_more a b (x ∷ xs) ys e h g = (h.0, flows_more (a + 1) b xs ys (omega (arith, e)) h.1 g)

    -- an instruction with a point
    pub fine : (a : ℕ) (i : Instr) (q : Point) (gs : List Goal) → P a ≡ Some q → is_placed code notes k a i ≡ true → Followed a i → effect code rels hosts notes k a i q ≡ Some gs → AllGo gs → ((r : Point) → P (a + 1) ≡ Some r → Comes (a + 1)) → IsFine a i
    fine a i q gs at placed followed does go next = record {
      placed = placed;
      followed = followed;
      goes = λ r e. subst (λ r. (gs : List Goal) × (effect code rels hosts notes k a i r ≡ Some gs) × AllGo gs) (some_is q r (sym at ∙ e)) (gs, does, go);
      next = next;
    }

    -- one that goes on to the next address
    pub plain : (a : ℕ) (i : Instr) (q r : Point) → slice_get code.instrs a ≡ Some i → P a ≡ Some q → is_placed code notes k a i ≡ true → Followed a i → effect code rels hosts notes k a i q ≡ Some (goal (a + 1) r ∷ []) → P (a + 1) ≡ Some r → lo ≤ a → a + 1 ≤ hi → IsFine a i
    plain a i q r here at placed followed does then low high =
        let lt : a < a + 1 = omega arith in
        fine a i q (goal (a + 1) r ∷ []) at placed followed does ((omega (arith, low), high, r, refl, then), tt)
        (λ s e. record { from = a; point = q; instr = i; goals = goal (a + 1) r ∷ []; lower = lt; point_is = at; here = here; does = does; comes = inl refl })

    module _ (fits : Fits) where
      -- ---- what is seen of expressions

      link_below : (op : Op) (s t : Seen) (g h f : Form) → OpIsOf rels op (g ∷ h ∷ []) f → Below s g → Below t h → Below (or_int (seen_by rels op (s ∷ t ∷ []))) f
      link_below op s t g h f is a b =
          let q = op_sees rels op (g ∷ h ∷ []) f (s ∷ t ∷ []) is.forms (a, (b, tt)) in subst (λ o. Below (or_int o) f) (sym q.seen_is) q.below

      mutual
        pub seen_below : (rs : List ℕ) (e : Expr) (f : Form) (a : ℕ) → IsOf sc rs e f → Noted e a → Below (seen e) f
        seen_below rs (constant c) f a is n = subst (λ f. Below (known (const_form c)) f) is.1 is_known
        seen_below rs (local i) f a is n =
            let s = fits.slots i f is.1 in
            subst (λ o. Below (form_in o) f) (sym s.1) (subst (λ f. Below (known s.0.form) f) s.2 is_known)
        seen_below rs (relation r) f a is n = subst (λ f. Below (known (of_table (kinds_of (schema_of rels r)))) f) is.1 is_known
        seen_below rs (prim op args at) f a is n =
            let q = op_sees rels op is.0 f (all_seen args) is.2.forms (seen_all rs args is.0 a is.1 n) in subst (λ o. Below (or_int o) f) (sym q.seen_is) q.below
        seen_below rs (chain first links) f a is n = links_below rs links is.0 f (seen first) (expr_end first a) is.2 n.1 (seen_below rs first is.0 a is.1 n.0)
        seen_below rs (and_all args) f a is n = subst (λ f. Below (known bool_form) f) (sym is.2) is_known
        seen_below rs (or_any args) f a is n = subst (λ f. Below (known bool_form) f) (sym is.2) is_known
        seen_below rs (when_expr body hypos) f a is n = seen_below rs body f (hypos_end hypos a) is.1 n.1
        seen_below rs (select i of body) f a is n =
            let s = fits.slots i (of_tuple is.0) is.2 in
            let same : s.0 ≡ n.1.1.note = some_is s.0 n.1.1.note (sym s.1 ∙ n.1.1.there) in
            let ks_are : n.1.0 ≡ is.0 = tuple_is n.1.0 is.0 (sym n.1.2 ∙ ap (λ (n : Slot_note). n.form) (sym same) ∙ s.2) in
            let kinds_are : kinds i ≡ is.0 = ap kinds_in n.1.1.there ∙ ap some_kinds n.1.1.gathers_is ∙ ks_are in
            subst (λ f. Below (known (of_table (kinds i))) f) (ap of_table kinds_are ∙ sym is.4) is_known
        seen_below rs (map_each i of body) f a is n =
            let kinds_are : kinds i ≡ is.1 = ap kinds_in n.1.1.there ∙ ap some_kinds n.1.1.gathers_is ∙ sym (n.1.2 (i ∷ rs) is.1 is.4) in
            subst (λ f. Below (known (of_table (kinds i))) f) (ap of_table kinds_are ∙ sym is.5) is_known
        seen_below rs (call j args) f a is n =
            let c = fits.calls j true is.0 (Some f) is.2 in
            let e : result notes j ≡ Some f = ap (λ (o : Option Body_note). with o (λ n. n.result)) c.note_is ∙ c.result_is in
            subst (λ o. Below (result_in o) f) (sym e) is_known
        seen_below rs (host h args) f a is n = subst (λ o. Below (host_in o) f) (sym is.1) (subst (λ f. Below (known (of_scalar (host_gives is.0))) f) (sym is.3) is_known)

        pub seen_all : (rs : List ℕ) (es : Exprs) (fs : List Form) (a : ℕ) → AreOf sc rs es fs → NotedAll es a → AllBelow (all_seen es) fs
        seen_all rs no_more [] a is n = tt
        seen_all rs no_more (f ∷ fs) a is n = absurd is
        seen_all rs (then_expr e es) [] a is n = absurd is
        seen_all rs (then_expr e es) (f ∷ fs) a is n = (seen_below rs e f a is.0 n.0, seen_all rs es fs (expr_end e a) is.1 n.1)

        pub links_below : (rs : List ℕ) (ls : Links) (g f : Form) (s : Seen) (a : ℕ) → LinksAreOf sc rs ls g f → NotedLinks ls a → Below s g → Below (links_seen rels hosts notes k ls s) f
        links_below rs no_link g f s a is n b = subst (λ f. Below s f) is b
        links_below rs (link op arg at rest) g f s a is n b =
            links_below rs rest is.1 f _ (expr_end arg a + 1) is.4 n.1 (link_below op s (seen arg) g is.0 is.1 is.3 b (seen_below rs arg is.0 a is.2 n.0))

      -- ---- operations

      prim_fine : (op : Op) (place : ℕ) (ss : List Seen) (fs : List Form) (f : Form) (a : ℕ) (p : Point) → OpIsOf rels op fs f → AllBelow ss fs → slice_get code.instrs a ≡ Some (Prim op place) → P a ≡ Some (pushed ss p) →
          P (a + 1) ≡ Some (push (or_int (seen_by rels op ss)) p) → lo ≤ a → a + 1 ≤ hi → IsFine a (Prim op place)
      prim_fine op place ss fs f a p is b here at then low high =
          let q = op_sees rels op fs f ss is.forms b in
          let long : length ss ≡ arity op = below_long ss fs b ∙ op_long rels op fs f is.forms in
          let go : Cut → Option (List Goal) = λ c. when (is_good_op op) (with (seen_by rels op c.args) (λ s. goes (a + 1) (with_operands (s ∷ c.rest) (pushed ss p)))) in
          plain a (Prim op place) (pushed ss p) (push q.seen p) here at refl tt
          (ap (λ m. with (cut m [] (pushed ss p).operands) go) (sym long) ∙ ap (λ o. with o go) (cut_all ss p)
          ∙ ap (λ b. when b (with (seen_by rels op ss) (λ s. goes (a + 1) (with_operands (s ∷ p.operands) (pushed ss p))))) is.good
          ∙ ap (λ o. with o (λ s. goes (a + 1) (with_operands (s ∷ p.operands) (pushed ss p)))) q.seen_is
          ∙ ap (λ r. goes (a + 1) r) (with_pushed ss (q.seen ∷ p.operands) p))
          (then ∙ ap (λ o. Some (push (or_int o) p)) q.seen_is) low high

      -- ---- jumps

      pub unless_fine : (a b : ℕ) (s : Seen) (p : Point) → Below s bool_form → a < b → slice_get code.instrs a ≡ Some (Unless b) → P a ≡ Some (push s p) → P (a + 1) ≡ Some p → P b ≡ Some p → lo ≤ a → b ≤ hi → IsFine a (Unless b)
      unless_fine a b s p is ahead here at then other low high =
          let lt : a < a + 1 = omega arith in
          let does : effect code rels hosts notes k a (Unless b) (push s p) ≡ Some (goal (a + 1) p ∷ goal b p ∷ []) = ap (λ t. when t (goes_or (a + 1) b p)) (below_agrees s bool_form is) in
          fine a (Unless b) (push s p) (goal (a + 1) p ∷ goal b p ∷ []) at (lt-ltb a b ahead) tt does
          ((omega (arith, low), omega (arith, ahead, high), p, refl, then), ((omega (arith, low, ahead), high, p, refl, other), tt))
          (λ r e. record { from = a; point = push s p; instr = Unless b; goals = goal (a + 1) p ∷ goal b p ∷ []; lower = lt; point_is = at; here = here; does = does; comes = inl refl })

      pub unless_comes : (a b : ℕ) (s : Seen) (p : Point) → Below s bool_form → a < b → slice_get code.instrs a ≡ Some (Unless b) → P a ≡ Some (push s p) → Comes b
      unless_comes a b s p is ahead here at = record {
        from = a;
        point = push s p;
        instr = Unless b;
        goals = goal (a + 1) p ∷ goal b p ∷ [];
        lower = ahead;
        point_is = at;
        here = here;
        does = ap (λ t. when t (goes_or (a + 1) b p)) (below_agrees s bool_form is);
        comes = inr (inl refl);
      }

      jump_fine : (a b : ℕ) (p : Point) → a < b → slice_get code.instrs a ≡ Some (Jump b) → P a ≡ Some p → P b ≡ Some p → lo ≤ a → b ≤ hi → ((r : Point) → P (a + 1) ≡ Some r → Comes (a + 1)) → IsFine a (Jump b)
      jump_fine a b p ahead here at then low high next = fine a (Jump b) p (goal b p ∷ []) at (lt-ltb a b ahead) tt refl ((omega (arith, low, ahead), high, p, refl, then), tt) next

      pub jump_comes : (a b : ℕ) (p : Point) → a < b → slice_get code.instrs a ≡ Some (Jump b) → P a ≡ Some p → Comes b
      jump_comes a b p ahead here at = record { from = a; point = p; instr = Jump b; goals = goal b p ∷ []; lower = ahead; point_is = at; here = here; does = refl; comes = inl refl }

      -- the last instruction of `&&`
      every_at : (es : Exprs) (a : ℕ) (p : Point) → IsNotNone es → Laid P a (every_points rels hosts notes k es p true) → P (every_last es a) ≡ Some p
      every_at no_more a p some laid = absurd some
      every_at (then_expr e no_more) a p some laid =
          (laid_behind P a (expr_points rels hosts notes k e p) (Some (aft e p) ∷ Some p ∷ []) (expr_end e a) (expr_many rels hosts notes k e p a) laid).1.0
      every_at (then_expr e (then_expr d es)) a p some laid =
          every_at (then_expr d es) (expr_end e a + 1) p tt (laid_behind P a (expr_points rels hosts notes k e p) (Some (aft e p) ∷ every_points rels hosts notes k (then_expr d es) p true) (expr_end e a) (expr_many rels hosts notes k e p a) laid).1

      -- ---- layers

      leaves_begin : (n c : ℕ) (s : Seen) (p : Point) → Laid P c (leaves_points n s p) → P (c + n) ≡ Some (push s p) → P c ≡ Some (push s (deeper n p))
      leaves_begin zero c s p laid end = let e : c ≡ c + 0 = omega arith in ap P e ∙ end
      leaves_begin (suc n) c s p laid end = laid.0

      leaves_flow : (n c : ℕ) (s : Seen) (p : Point) → HasAt code.instrs c (leaves n) → Laid P c (leaves_points n s p) → P (c + n) ≡ Some (push s p) → lo ≤ c → c + n ≤ hi → Flows c (leaves n)
      leaves_flow zero c s p has laid end low high = tt
      leaves_flow (suc n) c s p has laid end low high =
          let e : c + 1 + n ≡ c + suc n = omega arith in
          let end' : P (c + 1 + n) ≡ Some (push s p) = ap P e ∙ end in
          let then : P (c + 1) ≡ Some (push s (deeper n p)) = leaves_begin n (c + 1) s p laid.1 end' in (
            plain c Leave (push s (deeper (suc n) p)) (push s (deeper n p)) has.0 laid.0 refl tt refl then low (omega (arith, high)),
            leaves_flow n (c + 1) s p has.1 laid.1 end' (omega (arith, low)) (omega (arith, high)),
          )

      -- ---- walks

      -- around a walk's body: Walk at m, Next at l behind it, the body behind that up to z, and at x the way out
      module _ (rs : List ℕ) (i : ℕ) (of : Expr) (ks ls : List Kind) (a : ℕ) (p : Point) (z x : ℕ) (w_note : IsWalkNote i (expr_end of a + 1 + 1) z ls) (form_is : w_note.note.form ≡ of_tuple ks) (below : Below (seen of) (of_table ks)) (ahead : expr_end of a + 1 < x) where
        abbrev m : ℕ
        m = expr_end of a

        abbrev l : ℕ
        l = m + 1

        abbrev w : Point
        w = walking (seen of) (kinds i) p

        kinds_are : kinds i ≡ ls
        kinds_are = ap kinds_in w_note.there ∙ ap some_kinds w_note.gathers_is

        pub walk_fine : slice_get code.instrs m ≡ Some Walk → slice_get code.instrs l ≡ Some (Next i x) → P m ≡ Some (aft of p) → P l ≡ Some w → lo ≤ m → l ≤ hi → IsFine m Walk
        walk_fine here there at then low high =
            let g : gathered_by notes k (slice_get code.instrs l) ≡ Some (kinds i) = ap (gathered_by notes k) there ∙ ap (λ o. with o (λ n. n.gathers)) w_note.there ∙ w_note.gathers_is ∙ ap (λ ks. Some ks) (sym kinds_are) in
            plain m Walk (aft of p) w here at refl (ap is_some g)
            (ap (λ t. when t (Some (record { to = l; point = opened_point (seen of) p.operands (aft of p) (gathered_by notes k (slice_get code.instrs l)) } ∷ []))) (table_seen (seen of) ks below)
            ∙ ap (λ o. Some (record { to = l; point = opened_point (seen of) p.operands (aft of p) o } ∷ [])) g)
            then low high

        into : walks_into (seen of) w_note.note.form ≡ true
        into = ap (walks_into (seen of)) form_is ∙ below_agrees (seen of) (of_table ks) below

        next_does : effect code rels hosts notes k l (Next i x) w ≡ Some (goal (l + 1) w ∷ goal x w ∷ [])
        next_does = ap (λ o. with o (λ n. when (walks_into (seen of) n.form) (goes_or (l + 1) x w))) w_note.there ∙ ap (λ t. when t (goes_or (l + 1) x w)) into

        pub next_fine : slice_get code.instrs l ≡ Some (Next i x) → P l ≡ Some w → P (l + 1) ≡ Some w → P x ≡ Some w → lo ≤ l → x ≤ hi → IsFine l (Next i x)
        next_fine here at then other low high =
            let lt : l < l + 1 = omega arith in
            fine l (Next i x) w (goal (l + 1) w ∷ goal x w ∷ []) at (lt-ltb l x ahead) tt next_does
            ((omega (arith, low), omega (arith, ahead, high), w, refl, then), ((omega (arith, low, ahead), high, w, refl, other), tt))
            (λ r e. record { from = l; point = w; instr = Next i x; goals = goal (l + 1) w ∷ goal x w ∷ []; lower = lt; point_is = at; here = here; does = next_does; comes = inl refl })

        pub next_comes : slice_get code.instrs l ≡ Some (Next i x) → P l ≡ Some w → Comes x
        next_comes here at = record { from = l; point = w; instr = Next i x; goals = goal (l + 1) w ∷ goal x w ∷ []; lower = ahead; point_is = at; here = here; does = next_does; comes = inr (inl refl) }

        -- the way back, where it is reached
        pub back_fine : (c : ℕ) (some : Bool) → c + 1 ≡ x → slice_get code.instrs l ≡ Some (Next i x) → P c ≡ if_so some w → P l ≡ Some w → lo ≤ l → x ≤ hi → IsFine c (Back l)
        back_fine c some last next at top low high = record {
          placed = refl;
          followed = tt;
          goes = λ q e. by some q at e;
          next = λ r e. subst (λ n. Comes n) (sym last) (next_comes next top);
        }
          where
            by : (some : Bool) (q : Point) → P c ≡ if_so some w → P c ≡ Some q → (gs : List Goal) × (effect code rels hosts notes k c (Back l) q ≡ Some gs) × AllGo gs
            by true q at e = (goal l q ∷ [], refl, ((low, omega (arith, high, ahead), q, refl, top ∙ sym at ∙ e), tt))
            by false q at e = none_is _ q (sym at ∙ e)

        pub yield_fine : slice_get code.instrs x ≡ Some Yield → P x ≡ Some w → P (x + 1) ≡ Some (push (known (of_table (kinds i))) p) → lo ≤ x → x + 1 ≤ hi → IsFine x Yield
        yield_fine here at then low high = plain x Yield w (push (known (of_table (kinds i))) p) here at refl tt refl then low high

        pub drop_fine : slice_get code.instrs x ≡ Some Drop → P x ≡ Some w → P (x + 1) ≡ Some p → lo ≤ x → x + 1 ≤ hi → IsFine x Drop
        drop_fine here at then low high = plain x Drop w p here at refl tt refl then low high

        -- in the body the walk's slot is readable too
        pub covered : {hi' : ℕ} → Covered rs a hi' → z ≤ hi' → Covered (i ∷ rs) (l + 1) z
        covered cov le = record { set = λ j c n r there low high. by j c n there low high (nat_eq j i) refl r }
          where
            at_it : (j c : ℕ) (n : Slot_note) → slot notes k j ≡ Some n → l + 1 ≤ c → c < z → j ≡ i → is_set_at code k j c n ≡ true
            at_it j c n there low high e =
                let same : w_note.note ≡ n = some_is w_note.note n (sym w_note.there ∙ ap (slot notes k) (sym e) ∙ there) in
                let from : n.from ≤ c = omega (arith, low, ap (λ (n : Slot_note). n.from) (sym same) ∙ w_note.from_is) in
                let to : c < n.to = omega (arith, high, w_note.within, ap (λ (n : Slot_note). n.to) same) in
                or_right (nat_lt j (params code k)) (nat_le n.from c && nat_lt c n.to) (and_from (nat_le n.from c) (nat_lt c n.to) (le-leb n.from c from) (lt-ltb c n.to to))

            by : (j c : ℕ) (n : Slot_note) → slot notes k j ≡ Some n → l + 1 ≤ c → c < z → (t : Bool) → nat_eq j i ≡ t → (t || has_slot rs j) ≡ true → is_set_at code k j c n ≡ true
            by j c n there low high true e r = at_it j c n there low high (eqb-true j i e)
            by j c n there low high false e r = let up = expr_up of a in cov.set j c n r there (omega (arith, low, up)) (omega (arith, high, le))

      -- ---- calls and hosts

      called_result : (j : ℕ) (fs : List Form) (r : Option Form) → IsCalled j fs r → result notes j ≡ r
      called_result j fs r c = ap (λ (o : Option Body_note). with o (λ n. n.result)) c.note_is ∙ c.result_is

      pushed_with : (r : Option Form) (ss : List Seen) (p : Point) → with_operands (pushed_result r p.operands) (pushed ss p) ≡ with_operands (pushed_result r p.operands) p
      pushed_with r ss p = with_pushed ss (pushed_result r p.operands) p

      pub call_fine : (j : ℕ) (ss : List Seen) (fs : List Form) (r : Option Form) (a : ℕ) (p : Point) → IsCalled j fs r → AllBelow ss fs → slice_get code.instrs a ≡ Some (Call j) → P a ≡ Some (pushed ss p) →
          P (a + 1) ≡ Some (with_operands (pushed_result r p.operands) p) → lo ≤ a → a + 1 ≤ hi → IsFine a (Call j)
      call_fine j ss fs r a p c b here at then low high =
          let params_go : BodyInfo → Body_note → Cut → Option (List Goal) = λ i n t. when (nat_lt 0 j && all_agree t.args (take i.params (slot_forms n.slots))) (goes (a + 1) (with_operands (pushed_result n.result t.rest) (pushed ss p))) in
          let long : length ss ≡ c.info.params = below_long ss fs b ∙ c.long in
          let good : (nat_lt 0 j && all_agree ss (take c.info.params (slot_forms c.note.slots))) ≡ true = and_from (nat_lt 0 j) (all_agree ss (take c.info.params (slot_forms c.note.slots))) (lt-ltb 0 j c.behind_main)
          (subst (λ fs. all_agree ss fs ≡ true) c.params_are (all_below ss fs b)) in
          plain a (Call j) (pushed ss p) (with_operands (pushed_result r p.operands) p) here at (lt-ltb 0 j c.behind_main) tt
          (ap (λ o. with o (λ i. with (slice_get notes j) (λ n. with (cut i.params [] (pushed ss p).operands) (params_go i n)))) c.info_is
          ∙ ap (λ o. with o (λ n. with (cut c.info.params [] (pushed ss p).operands) (params_go c.info n))) c.note_is
          ∙ ap (λ m. with (cut m [] (pushed ss p).operands) (params_go c.info c.note)) (sym long) ∙ ap (λ o. with o (params_go c.info c.note)) (cut_all ss p)
          ∙ ap (λ t. when t (goes (a + 1) (with_operands (pushed_result c.note.result p.operands) (pushed ss p)))) good
          ∙ ap (λ r. goes (a + 1) (with_operands (pushed_result r p.operands) (pushed ss p))) c.result_is
          ∙ ap (λ q. goes (a + 1) q) (pushed_with r ss p))
          then low high

      host_fine : (h : ℕ) (spec : HostSpec) (ss : List Seen) (a : ℕ) (p : Point) → host_at hosts h ≡ Some spec → AllBelow ss (of_scalar (host_takes spec) ∷ []) → slice_get code.instrs a ≡ Some (Host h) → P a ≡ Some (pushed ss p) →
          P (a + 1) ≡ Some (push (known (of_scalar (host_gives spec))) p) → lo ≤ a → a + 1 ≤ hi → IsFine a (Host h)
      host_fine h spec [] a p is b here at then low high = absurd b
      host_fine h spec (s ∷ t ∷ ss) a p is b here at then low high = absurd b.1
      host_fine h spec (s ∷ []) a p is b here at then low high =
          plain a (Host h) (push s p) (push (known (of_scalar (host_gives spec))) p) here at refl tt
          (ap (λ o. with o (λ spec. takes_one (of_scalar (host_takes spec)) (push s p) (λ ss. goes (a + 1) (with_operands (known (of_scalar (host_gives spec)) ∷ ss) (push s p))))) is
          ∙ ap (λ t. when t (goes (a + 1) (push (known (of_scalar (host_gives spec))) p))) (below_agrees s (of_scalar (host_takes spec)) b.0))
          then low high

      -- ---- the law

      abbrev Pts : Expr → Point → List (Option Point)
      Pts e p = expr_points rels hosts notes k e p

      many : (e : Expr) (p : Point) (a : ℕ) → a + length (Pts e p) ≡ expr_end e a
      many e p a = expr_many rels hosts notes k e p a

      pub narrow : {rs : List ℕ} {a b : ℕ} (c d : ℕ) → Covered rs a b → a ≤ c → d ≤ b → Covered rs c d
      narrow c d cov le ge = record { set = λ i e n r there low high. cov.set i e n r there (omega (arith, le, low)) (omega (arith, ge, high)) }

      expr_first : (rs : List ℕ) (e : Expr) (f : Form) (a : ℕ) (p : Point) → IsOf sc rs e f → Laid P a (Pts e p) → P a ≡ Some p
      expr_first rs e f a p is laid = let b = expr_begins rels hosts notes k sc rs e f p is in laid_first P a (Pts e p) p b.0 b.1 laid

      links_first : (rs : List ℕ) (ls : Links) (g f : Form) (s : Seen) (a : ℕ) (p : Point) → LinksAreOf sc rs ls g f → Laid P a (links_points rels hosts notes k ls s p) → P (links_end ls a) ≡ Some (push (links_seen rels hosts notes k ls s) p) → P a ≡ Some (push s p)
      links_first rs no_link g f s a p is laid end = end
      links_first rs (link op arg at rest) g f s a p is laid end = expr_first rs arg is.0 a (push s p) is.2 (laid_front P a (Pts arg (push s p)) _ laid)

      -- the last instruction of `&&`, which may have no point
      false_fine : (a z : ℕ) (p : Point) (some : Bool) → a ≡ z → slice_get code.instrs a ≡ Some (push_bool false) → P a ≡ if_so some p → P (z + 1) ≡ Some (push (known bool_form) p) → lo ≤ a → z + 1 ≤ hi → Comes (z + 1) → IsFine a (push_bool false)
      false_fine a z p some same here at then low high comes = record {
        placed = refl;
        followed = tt;
        goes = λ q e. by some q at e;
        next = λ r e. subst (λ n. Comes (n + 1)) (sym same) comes;
      }
        where
          by : (some : Bool) (q : Point) → P a ≡ if_so some p → P a ≡ Some q → (gs : List Goal) × (effect code rels hosts notes k a (push_bool false) q ≡ Some gs) × AllGo gs
          by true q at e =
              let p_is : p ≡ q = some_is p q (sym at ∙ e) in
              subst (λ q. (gs : List Goal) × (effect code rels hosts notes k a (push_bool false) q ≡ Some gs) × AllGo gs) p_is
              (goal (a + 1) (push (known bool_form) p) ∷ [], refl, ((omega (arith, low), omega (arith, high, same), push (known bool_form) p, refl, ap (λ n. P (n + 1)) same ∙ then), tt))
          by false q at e = none_is _ q (sym at ∙ e)

      is_reached : (some : Bool) (b : ℕ) (p r : Point) → P b ≡ if_so some p → P b ≡ Some r → some ≡ true
      is_reached true b p r e f = refl
      is_reached false b p r e f = none_is (false ≡ true) r (sym e ∙ f)

      mutual
        pub expr_flows : (rs : List ℕ) (e : Expr) (f : Form) (a : ℕ) (p : Point) → IsOf sc rs e f → Noted e a → HasAt code.instrs a (expr_code e a) → Laid P a (Pts e p) → P (expr_end e a) ≡ Some (aft e p) →
            lo ≤ a → expr_end e a ≤ hi → Covered rs a (expr_end e a) → Flows a (expr_code e a)
        expr_flows rs (constant c) f a p is n has laid end low high cov =
            (plain a (Push c) p (push (known (const_form c)) p) has.0 laid.0 refl tt (ap (λ t. when t (goes (a + 1) (push (known (const_form c)) p))) is.0) end low high, tt)
        expr_flows rs (local i) f a p is n has laid end low high cov =
            let s = fits.slots i f is.1 in
            let lt : a < a + 1 = omega arith in
            let set : is_set_at code k i a s.0 ≡ true = cov.set i a s.0 is.0 s.1 (omega arith) lt in (
              plain a (Load i) p (push (known s.0.form) p) has.0 laid.0 (ap (is_in code k i a) s.1 ∙ set) tt
                  (ap (λ o. with o (λ n. when (is_set_at code k i a n) (goes (a + 1) (push (known n.form) p)))) s.1 ∙ ap (λ t. when t (goes (a + 1) (push (known s.0.form) p))) set)
                  (end ∙ ap (λ o. Some (push (form_in o) p)) s.1) low high,
              tt,
            )
        expr_flows rs (relation r) f a p is n has laid end low high cov = (
          plain a (Rel (record { 0 = r })) p (push (known (of_table (kinds_of (schema_of rels r)))) p) has.0 laid.0 refl tt
              (ap (λ t. when t (goes (a + 1) (push (known (of_table (kinds_of (schema_of rels r)))) p))) (lt-ltb r (length rels) is.0)) end low high,
          tt,
        )
        expr_flows rs (prim op args place) f a p is n has laid end low high cov =
            let m = exprs_end args a in
            let at = laid_behind P a (exprs_points rels hosts notes k args p) (Some (pushed (all_seen args) p) ∷ []) m (exprs_many rels hosts notes k args p a) laid in
            let up = exprs_up args a in
            flows_more a m (exprs_code args a) (Prim op place ∷ []) (exprs_length args a)
            (exprs_flows rs args is.0 a p is.1 n (has_front code.instrs a (exprs_code args a) (Prim op place ∷ []) has) laid low (omega (arith, high)) (narrow a m cov (omega arith) (omega arith)))
            (prim_fine op place (all_seen args) is.0 f m p is.2 (seen_all rs args is.0 a is.1 n) (here_behind code.instrs a (exprs_code args a) (Prim op place) [] m (exprs_length args a) has) at.0 end (omega (arith, low, up)) high, tt)
        expr_flows rs (chain first links) f a p is n has laid end low high cov =
            let m = expr_end first a in
            let rest = laid_behind P a (Pts first p) (links_points rels hosts notes k links (seen first) p) m (many first p a) laid in
            let at : P m ≡ Some (aft first p) = links_first rs links is.0 f (seen first) m p is.2 rest end in
            let up = expr_up first a in
            let more = links_up links m in
            flows_more a m (expr_code first a) (links_code links m) (expr_length first a)
            (expr_flows rs first is.0 a p is.1 n.0 (has_front code.instrs a (expr_code first a) (links_code links m) has) (laid_front P a (Pts first p) _ laid) at low (omega (arith, high, more)) (narrow a m cov (omega arith) more))
            (links_flows rs links is.0 f (seen first) m p is.2 n.1 (seen_below rs first is.0 a is.1 n.0) (all_behind code.instrs a (expr_code first a) (links_code links m) m (expr_length first a) has) rest at end (omega (arith, low, up)) high (narrow m (links_end links m) cov up (omega arith)))
        expr_flows rs (and_all args) f a p is n has laid end low high cov =
            every_flows rs args a (every_last args a) p false is.0 is.1 n refl has laid end low high cov (λ e. absurd (false≢true e))
        expr_flows rs (or_any args) f a p is n has laid end low high cov = some_flows rs args a (some_end args a) p is.0 is.1 n refl has laid end low high cov
        expr_flows rs (when_expr body hypos) f a p is n has laid end low high cov =
            let c = hypos_count hypos in
            let h = hypos_end hypos a in
            let b = expr_end body h in
            let q = deeper c p in
            let rest = laid_behind P a (hypos_points rels hosts notes k hypos p) (Pts body q ++ leaves_points c (seen body) p) h (hypos_many rels hosts notes k hypos p a) laid in
            let last = laid_behind P h (Pts body q) (leaves_points c (seen body) p) b (many body q h) rest in
            let at : P h ≡ Some q = expr_first rs body f h q is.1 (laid_front P h (Pts body q) _ rest) in
            let at_b : P b ≡ Some (push (seen body) q) = leaves_begin c b (seen body) p last end in
            let has_rest = all_behind code.instrs a (hypos_code hypos a) (expr_code body h ++ leaves c) h (hypos_length hypos a) has in
            let up = hypos_up hypos a in
            let more = expr_up body h in
            flows_more a h (hypos_code hypos a) (expr_code body h ++ leaves c) (hypos_length hypos a)
            (hypos_flows rs hypos a p is.0 n.0 (has_front code.instrs a (hypos_code hypos a) _ has) (laid_front P a (hypos_points rels hosts notes k hypos p) _ laid) at low (omega (arith, high, more)) (narrow a h cov (omega arith) (omega (arith, more))))
            (flows_more h b (expr_code body h) (leaves c) (expr_length body h)
            (expr_flows rs body f h q is.1 n.1 (has_front code.instrs h (expr_code body h) (leaves c) has_rest) (laid_front P h (Pts body q) _ rest) at_b (omega (arith, low, up)) (omega (arith, high)) (narrow h b cov up (omega arith)))
            (leaves_flow c b (seen body) p (all_behind code.instrs h (expr_code body h) (leaves c) b (expr_length body h) has_rest) last end (omega (arith, low, up, more)) high))
        expr_flows rs (select i of body) f a p is n has laid end low high cov =
            let m' = expr_end of a in
            let l' = m' + 1 in
            let b' = expr_end body (l' + 1) in
            let x' = b' + 1 + 1 in
            let w' = walking (seen of) (kinds i) p in
            let below = seen_below rs of (of_table is.0) a is.1 n.0 in
            let s = fits.slots i (of_tuple is.0) is.2 in
            let same : s.0 ≡ n.1.1.note = some_is s.0 n.1.1.note (sym s.1 ∙ n.1.1.there) in
            let form : n.1.1.note.form ≡ of_tuple is.0 = ap (λ (n : Slot_note). n.form) (sym same) ∙ s.2 in
            let kinds_is : kinds i ≡ is.0 = ap kinds_in n.1.1.there ∙ ap some_kinds n.1.1.gathers_is ∙ tuple_is n.1.0 is.0 (sym n.1.2 ∙ form) in
            let inner : List (Option Point) = Some (aft body w') ∷ Some w' ∷ Some w' ∷ [] in
            let behind = laid_behind P a (Pts of p) (Some (aft of p) ∷ Some w' ∷ (Pts body w' ++ inner)) m' (many of p a) laid in
            let last = laid_behind P (l' + 1) (Pts body w') inner b' (many body w' (l' + 1)) behind.1.1 in
            let codes = all_behind code.instrs a (expr_code of a) (Walk ∷ Next i x' ∷ (expr_code body (l' + 1) ++ Keep ∷ Back l' ∷ Yield ∷ [])) m' (expr_length of a) has in
            let ends = all_behind code.instrs (l' + 1) (expr_code body (l' + 1)) (Keep ∷ Back l' ∷ Yield ∷ []) b' (expr_length body (l' + 1)) codes.1.1 in
            let at_body : P (l' + 1) ≡ Some w' = expr_first (i ∷ rs) body bool_form (l' + 1) w' is.3 (laid_front P (l' + 1) (Pts body w') inner behind.1.1) in
            let up = expr_up of a in
            let more = expr_up body (l' + 1) in
            let bool = seen_below (i ∷ rs) body bool_form (l' + 1) is.3 n.2 in
            let ahead' : l' < x' = omega (arith, more) in
            flows_more a m' (expr_code of a) _ (expr_length of a)
            (expr_flows rs of (of_table is.0) a p is.1 n.0 (has_front code.instrs a (expr_code of a) _ has) (laid_front P a (Pts of p) _ laid) behind.0 low (omega (arith, high, more)) (narrow a m' cov (omega arith) (omega (arith, more)))) (
              walk_fine rs i of is.0 n.1.0 a p b' x' n.1.1 form below ahead' codes.0 codes.1.0 behind.0 behind.1.0 (omega (arith, low, up)) (omega (arith, high, more)),
              (
                next_fine rs i of is.0 n.1.0 a p b' x' n.1.1 form below ahead' codes.1.0 behind.1.0 at_body last.1.1.0 (omega (arith, low, up)) (omega (arith, high)),
                flows_more (l' + 1) b' (expr_code body (l' + 1)) (Keep ∷ Back l' ∷ Yield ∷ []) (expr_length body (l' + 1))
                    (expr_flows (i ∷ rs) body bool_form (l' + 1) w' is.3 n.2 (has_front code.instrs (l' + 1) (expr_code body (l' + 1)) _ codes.1.1) (laid_front P (l' + 1) (Pts body w') inner behind.1.1) last.0 (omega (arith, low, up)) (omega (arith, high))
                    (covered rs i of is.0 n.1.0 a p b' x' n.1.1 form below ahead' cov (omega arith))) (
                      plain b' Keep (aft body w') w' ends.0 last.0 refl tt
                          (ap (λ t. when t (when (agrees (seen of) (of_table (kinds i))) (goes (b' + 1) w'))) (below_agrees (seen body) bool_form bool)
                          ∙ ap (λ t. when t (goes (b' + 1) w')) (ap (λ ks. agrees (seen of) (of_table ks)) kinds_is ∙ below_agrees (seen of) (of_table is.0) below))
                          last.1.0 (omega (arith, low, up, more)) (omega (arith, high)),
                      (
                        back_fine rs i of is.0 n.1.0 a p b' x' n.1.1 form below ahead' (b' + 1) true refl codes.1.0 last.1.0 behind.1.0 (omega (arith, low, up)) (omega (arith, high)),
                        (yield_fine rs i of is.0 n.1.0 a p b' x' n.1.1 form below ahead' ends.1.1.0 last.1.1.0 end (omega (arith, low, up, more)) high, tt),
                      ),
                    ),
              ),
            )
        expr_flows rs (map_each i of body) f a p is n has laid end low high cov =
            let m' = expr_end of a in
            let l' = m' + 1 in
            let b' = expr_end body (l' + 1) in
            let x' = b' + 1 + 1 in
            let w' = walking (seen of) (kinds i) p in
            let below = seen_below rs of (of_table is.0) a is.2 n.0 in
            let s = fits.slots i (of_tuple is.0) is.3 in
            let same : s.0 ≡ n.1.1.note = some_is s.0 n.1.1.note (sym s.1 ∙ n.1.1.there) in
            let form : n.1.1.note.form ≡ of_tuple is.0 = ap (λ (n : Slot_note). n.form) (sym same) ∙ s.2 in
            let kinds_is : kinds i ≡ is.1 = ap kinds_in n.1.1.there ∙ ap some_kinds n.1.1.gathers_is ∙ sym (n.1.2 (i ∷ rs) is.1 is.4) in
            let inner : List (Option Point) = Some (aft body w') ∷ Some w' ∷ Some w' ∷ [] in
            let behind = laid_behind P a (Pts of p) (Some (aft of p) ∷ Some w' ∷ (Pts body w' ++ inner)) m' (many of p a) laid in
            let last = laid_behind P (l' + 1) (Pts body w') inner b' (many body w' (l' + 1)) behind.1.1 in
            let codes = all_behind code.instrs a (expr_code of a) (Walk ∷ Next i x' ∷ (expr_code body (l' + 1) ++ Gather ∷ Back l' ∷ Yield ∷ [])) m' (expr_length of a) has in
            let ends = all_behind code.instrs (l' + 1) (expr_code body (l' + 1)) (Gather ∷ Back l' ∷ Yield ∷ []) b' (expr_length body (l' + 1)) codes.1.1 in
            let at_body : P (l' + 1) ≡ Some w' = expr_first (i ∷ rs) body (of_tuple is.1) (l' + 1) w' is.4 (laid_front P (l' + 1) (Pts body w') inner behind.1.1) in
            let up = expr_up of a in
            let more = expr_up body (l' + 1) in
            let tuple = seen_below (i ∷ rs) body (of_tuple is.1) (l' + 1) is.4 n.2 in
            let ahead' : l' < x' = omega (arith, more) in
            flows_more a m' (expr_code of a) _ (expr_length of a)
            (expr_flows rs of (of_table is.0) a p is.2 n.0 (has_front code.instrs a (expr_code of a) _ has) (laid_front P a (Pts of p) _ laid) behind.0 low (omega (arith, high, more)) (narrow a m' cov (omega arith) (omega (arith, more)))) (
              walk_fine rs i of is.0 n.1.0 a p b' x' n.1.1 form below ahead' codes.0 codes.1.0 behind.0 behind.1.0 (omega (arith, low, up)) (omega (arith, high, more)),
              (
                next_fine rs i of is.0 n.1.0 a p b' x' n.1.1 form below ahead' codes.1.0 behind.1.0 at_body last.1.1.0 (omega (arith, low, up)) (omega (arith, high)),
                flows_more (l' + 1) b' (expr_code body (l' + 1)) (Gather ∷ Back l' ∷ Yield ∷ []) (expr_length body (l' + 1))
                    (expr_flows (i ∷ rs) body (of_tuple is.1) (l' + 1) w' is.4 n.2 (has_front code.instrs (l' + 1) (expr_code body (l' + 1)) _ codes.1.1) (laid_front P (l' + 1) (Pts body w') inner behind.1.1) last.0 (omega (arith, low, up)) (omega (arith, high))
                    (covered rs i of is.0 n.1.0 a p b' x' n.1.1 form below ahead' cov (omega arith))) (
                      plain b' Gather (aft body w') w' ends.0 last.0 refl tt
                          (ap (λ t. when t (goes (b' + 1) w')) (ap (λ ks. agrees (seen body) (of_tuple ks)) kinds_is ∙ below_agrees (seen body) (of_tuple is.1) tuple))
                          last.1.0 (omega (arith, low, up, more)) (omega (arith, high)),
                      (
                        back_fine rs i of is.0 n.1.0 a p b' x' n.1.1 form below ahead' (b' + 1) true refl codes.1.0 last.1.0 behind.1.0 (omega (arith, low, up)) (omega (arith, high)),
                        (yield_fine rs i of is.0 n.1.0 a p b' x' n.1.1 form below ahead' ends.1.1.0 last.1.1.0 end (omega (arith, low, up, more)) high, tt),
                      ),
                    ),
              ),
            )
        expr_flows rs (call j args) f a p is n has laid end low high cov =
            let m = exprs_end args a in
            let at = laid_behind P a (exprs_points rels hosts notes k args p) (Some (pushed (all_seen args) p) ∷ []) m (exprs_many rels hosts notes k args p a) laid in
            let up = exprs_up args a in
            flows_more a m (exprs_code args a) (Call j ∷ []) (exprs_length args a)
            (exprs_flows rs args is.0 a p is.1 n (has_front code.instrs a (exprs_code args a) (Call j ∷ []) has) laid low (omega (arith, high)) (narrow a m cov (omega arith) (omega arith)))
            (call_fine j (all_seen args) is.0 (Some f) m p (fits.calls j true is.0 (Some f) is.2) (seen_all rs args is.0 a is.1 n) (here_behind code.instrs a (exprs_code args a) (Call j) [] m (exprs_length args a) has) at.0 (end ∙ ap (λ o. Some (push (result_in o) p)) (called_result j is.0 (Some f) (fits.calls j true is.0 (Some f) is.2))) (omega (arith, low, up)) high, tt)
        expr_flows rs (host h args) f a p is n has laid end low high cov =
            let m = exprs_end args a in
            let takes : List Form = of_scalar (host_takes is.0) ∷ [] in
            let at = laid_behind P a (exprs_points rels hosts notes k args p) (Some (pushed (all_seen args) p) ∷ []) m (exprs_many rels hosts notes k args p a) laid in
            let up = exprs_up args a in
            flows_more a m (exprs_code args a) (Host h ∷ []) (exprs_length args a)
            (exprs_flows rs args takes a p is.2 n (has_front code.instrs a (exprs_code args a) (Host h ∷ []) has) laid low (omega (arith, high)) (narrow a m cov (omega arith) (omega arith)))
            (host_fine h is.0 (all_seen args) m p is.1 (seen_all rs args takes a is.2 n) (here_behind code.instrs a (exprs_code args a) (Host h) [] m (exprs_length args a) has) at.0 (end ∙ ap (λ o. Some (push (host_in o) p)) is.1) (omega (arith, low, up)) high, tt)

        pub exprs_flows : (rs : List ℕ) (es : Exprs) (fs : List Form) (a : ℕ) (p : Point) → AreOf sc rs es fs → NotedAll es a → HasAt code.instrs a (exprs_code es a) → Laid P a (exprs_points rels hosts notes k es p ++ Some (pushed (all_seen es) p) ∷ []) →
            lo ≤ a → exprs_end es a ≤ hi → Covered rs a (exprs_end es a) → Flows a (exprs_code es a)
        exprs_flows rs no_more fs a p is n has laid low high cov = tt
        exprs_flows rs (then_expr e es) [] a p is n has laid low high cov = absurd is
        exprs_flows rs (then_expr e es) (f ∷ fs) a p is n has laid low high cov =
            let m = expr_end e a in
            let q = aft e p in
            let rest : List (Option Point) = exprs_points rels hosts notes k es q ++ Some (pushed (all_seen es) q) ∷ [] in
            let laid' : Laid P a (Pts e p ++ rest) = subst (λ os. Laid P a os) (append_assoc (Pts e p) (exprs_points rels hosts notes k es q) (Some (pushed (all_seen es) q) ∷ [])) laid in
            let behind = laid_behind P a (Pts e p) rest m (many e p a) laid' in
            let b = exprs_begin rels hosts notes k sc rs es fs q [] is.1 in
            let at : P m ≡ Some q = laid_first P m rest q b.0 b.1 behind in
            let up = expr_up e a in
            let more = exprs_up es m in
            flows_more a m (expr_code e a) (exprs_code es m) (expr_length e a)
            (expr_flows rs e f a p is.0 n.0 (has_front code.instrs a (expr_code e a) (exprs_code es m) has) (laid_front P a (Pts e p) rest laid') at low (omega (arith, high, more)) (narrow a m cov (omega arith) more))
            (exprs_flows rs es fs m q is.1 n.1 (all_behind code.instrs a (expr_code e a) (exprs_code es m) m (expr_length e a) has) behind (omega (arith, low, up)) high (narrow m (exprs_end es m) cov up (omega arith)))

        every_flows : (rs : List ℕ) (es : Exprs) (a z : ℕ) (p : Point) (some : Bool) → IsNotNone es → AreBools sc rs es → NotedEvery es a → every_last es a ≡ z → HasAt code.instrs a (every_code es a z) → Laid P a (every_points rels hosts notes k es p some) →
            P (z + 1) ≡ Some (push (known bool_form) p) → lo ≤ a → z + 1 ≤ hi → Covered rs a (z + 1) → (some ≡ true → Comes z) → Flows a (every_code es a z)
        every_flows rs no_more a z p some not_none is n last has laid end low high cov comes = absurd not_none
        every_flows rs (then_expr e no_more) a z p some not_none is n last has laid end low high cov comes =
            let m = expr_end e a in
            let at_z : m + 1 ≡ z = last in
            let codes = all_behind code.instrs a (expr_code e a) (Jump (z + 1) ∷ push_bool false ∷ []) m (expr_length e a) has in
            let behind = laid_behind P a (Pts e p) (Some (aft e p) ∷ if_so some p ∷ []) m (many e p a) laid in
            let q_is : aft e p ≡ push (known bool_form) p = ap (λ s. push s p) (bool_seen (seen e) (seen_below rs e bool_form a is.0 n.0)) in
            let end' : P (z + 1) ≡ Some (aft e p) = end ∙ ap (λ q. Some q) (sym q_is) in
            let up = expr_up e a in
            let ahead : m < z + 1 = omega (arith, at_z) in
            let here_z : slice_get code.instrs z ≡ Some (push_bool false) = ap (slice_get code.instrs) (sym at_z) ∙ codes.1.0 in
            flows_more a m (expr_code e a) (Jump (z + 1) ∷ push_bool false ∷ []) (expr_length e a)
            (expr_flows rs e bool_form a p is.0 n.0 (has_front code.instrs a (expr_code e a) _ has) (laid_front P a (Pts e p) _ laid) behind.0 low (omega (arith, high, at_z)) (narrow a m cov (omega arith) (omega (arith, at_z)))) (
              jump_fine m (z + 1) (aft e p) ahead codes.0 behind.0 end' (omega (arith, low, up)) high (λ r at. subst (λ b. Comes b) (sym at_z) (comes (is_reached some (m + 1) p r behind.1.0 at))),
              (false_fine (m + 1) z p some at_z codes.1.0 behind.1.0 end (omega (arith, low, up)) high (jump_comes m (z + 1) (aft e p) ahead codes.0 behind.0), tt),
            )
        every_flows rs (then_expr e (then_expr d es)) a z p some not_none is n last has laid end low high cov comes =
            let m = expr_end e a in
            let es' : Exprs = then_expr d es in
            let codes = all_behind code.instrs a (expr_code e a) (Unless z ∷ every_code es' (m + 1) z) m (expr_length e a) has in
            let behind = laid_behind P a (Pts e p) (Some (aft e p) ∷ every_points rels hosts notes k es' p true) m (many e p a) laid in
            let bool = seen_below rs e bool_form a is.0 n.0 in
            let b = every_begins rels hosts notes k sc rs es' p true is.1 in
            let then : P (m + 1) ≡ Some p = laid_first P (m + 1) (every_points rels hosts notes k es' p true) p b.0 b.1 behind.1 in
            let at_z : P z ≡ Some p = ap P (sym last) ∙ every_at es' (m + 1) p tt behind.1 in
            let up = expr_up e a in
            let more = every_up es' (m + 1) in
            let ahead : m < z = omega (arith, more, last) in
            flows_more a m (expr_code e a) (Unless z ∷ every_code es' (m + 1) z) (expr_length e a)
            (expr_flows rs e bool_form a p is.0 n.0 (has_front code.instrs a (expr_code e a) _ has) (laid_front P a (Pts e p) _ laid) behind.0 low (omega (arith, high, ahead)) (narrow a m cov (omega arith) (omega (arith, ahead)))) (
              unless_fine m z (seen e) p bool ahead codes.0 behind.0 then at_z (omega (arith, low, up)) (omega (arith, high)),
              every_flows rs (then_expr d es) (m + 1) z p true tt is.1 n.1 last codes.1 behind.1 end (omega (arith, low, up)) high (narrow (m + 1) (z + 1) cov (omega (arith, up)) (omega arith)) (λ t. unless_comes m z (seen e) p bool ahead codes.0 behind.0),
            )

        some_flows : (rs : List ℕ) (es : Exprs) (a z : ℕ) (p : Point) → IsNotNone es → AreBools sc rs es → NotedSome es a → some_end es a ≡ z → HasAt code.instrs a (some_code es a z) → Laid P a (some_points rels hosts notes k es p) →
            P z ≡ Some (push (known bool_form) p) → lo ≤ a → z ≤ hi → Covered rs a z → Flows a (some_code es a z)
        some_flows rs no_more a z p not_none is n last has laid end low high cov = absurd not_none
        some_flows rs (then_expr e no_more) a z p not_none is n last has laid end low high cov =
            let q_is : push (known bool_form) p ≡ aft e p = ap (λ s. push s p) (sym (bool_seen (seen e) (seen_below rs e bool_form a is.0 n.0))) in
            expr_flows rs e bool_form a p is.0 n.0 has laid (ap P last ∙ end ∙ ap (λ q. Some q) q_is) low (omega (arith, high, last)) (narrow a (expr_end e a) cov (omega arith) (omega (arith, last)))
        some_flows rs (then_expr e (then_expr d es)) a z p not_none is n last has laid end low high cov =
            let m = expr_end e a in
            let t = m + 1 + 1 + 1 in
            let es' : Exprs = then_expr d es in
            let codes = all_behind code.instrs a (expr_code e a) (Unless t ∷ push_bool true ∷ Jump z ∷ some_code es' t z) m (expr_length e a) has in
            let behind = laid_behind P a (Pts e p) (Some (aft e p) ∷ Some p ∷ Some (push (known bool_form) p) ∷ some_points rels hosts notes k es' p) m (many e p a) laid in
            let bool = seen_below rs e bool_form a is.0 n.0 in
            let b = some_begins rels hosts notes k sc rs es' p tt is.1 in
            let at_t : P t ≡ Some p = laid_first P t (some_points rels hosts notes k es' p) p b.0 b.1 behind.1.1.1 in
            let up = expr_up e a in
            let more = some_up es' t in
            let ahead : m < t = omega arith in
            let below_z : m + 1 + 1 < z = omega (arith, more, last) in
            flows_more a m (expr_code e a) _ (expr_length e a)
            (expr_flows rs e bool_form a p is.0 n.0 (has_front code.instrs a (expr_code e a) _ has) (laid_front P a (Pts e p) _ laid) behind.0 low (omega (arith, high, below_z)) (narrow a m cov (omega arith) (omega (arith, below_z)))) (
              unless_fine m t (seen e) p bool ahead codes.0 behind.0 behind.1.0 at_t (omega (arith, low, up)) (omega (arith, high, below_z)),
              (
                plain (m + 1) (push_bool true) p (push (known bool_form) p) codes.1.0 behind.1.0 refl tt refl behind.1.1.0 (omega (arith, low, up)) (omega (arith, high, below_z)),
                (
                  jump_fine (m + 1 + 1) z (push (known bool_form) p) below_z codes.1.1.0 behind.1.1.0 end (omega (arith, low, up)) high (λ r at. unless_comes m t (seen e) p bool ahead codes.0 behind.0),
                  some_flows rs (then_expr d es) t z p tt is.1 n.1 last codes.1.1.1 behind.1.1.1 end (omega (arith, low, up)) high (narrow t z cov (omega (arith, up)) (omega arith)),
                ),
              ),
            )

        links_flows : (rs : List ℕ) (ls : Links) (g f : Form) (s : Seen) (a : ℕ) (p : Point) → LinksAreOf sc rs ls g f → NotedLinks ls a → Below s g → HasAt code.instrs a (links_code ls a) → Laid P a (links_points rels hosts notes k ls s p) → P a ≡ Some (push s p) →
            P (links_end ls a) ≡ Some (push (links_seen rels hosts notes k ls s) p) → lo ≤ a → links_end ls a ≤ hi → Covered rs a (links_end ls a) → Flows a (links_code ls a)
        links_flows rs no_link g f s a p is n below has laid at end low high cov = tt
        links_flows rs (link op arg place rest) g f s a p is n below has laid at end low high cov =
            let m = expr_end arg a in
            let q = push s p in
            let r = or_int (seen_by rels op (s ∷ seen arg ∷ [])) in
            let codes = all_behind code.instrs a (expr_code arg a) (Prim op place ∷ links_code rest (m + 1)) m (expr_length arg a) has in
            let behind = laid_behind P a (Pts arg q) (Some (aft arg q) ∷ links_points rels hosts notes k rest r p) m (many arg q a) laid in
            let arg_below = seen_below rs arg is.0 a is.2 n.0 in
            let then : P (m + 1) ≡ Some (push r p) = links_first rs rest is.1 f r (m + 1) p is.4 behind.1 end in
            let up = expr_up arg a in
            let more = links_up rest (m + 1) in
            flows_more a m (expr_code arg a) (Prim op place ∷ links_code rest (m + 1)) (expr_length arg a)
            (expr_flows rs arg is.0 a q is.2 n.0 (has_front code.instrs a (expr_code arg a) _ has) (laid_front P a (Pts arg q) _ laid) behind.0 low (omega (arith, high, more)) (narrow a m cov (omega arith) (omega (arith, more)))) (
              prim_fine op place (s ∷ seen arg ∷ []) (g ∷ is.0 ∷ []) is.1 m p is.3 (below, (arg_below, tt)) codes.0 behind.0 then (omega (arith, low, up)) (omega (arith, high, more)),
              links_flows rs rest is.1 f r (m + 1) p is.4 n.1 (link_below op s (seen arg) g is.0 is.1 is.3 below arg_below) codes.1 behind.1 then end (omega (arith, low, up)) high (narrow (m + 1) (links_end rest (m + 1)) cov (omega (arith, up)) (omega arith)),
            )

        hypos_flows : (rs : List ℕ) (hs : Hypos) (a : ℕ) (p : Point) → AreDeltas sc rs hs → NotedHypos hs a → HasAt code.instrs a (hypos_code hs a) → Laid P a (hypos_points rels hosts notes k hs p) → P (hypos_end hs a) ≡ Some (deeper (hypos_count hs) p) →
            lo ≤ a → hypos_end hs a ≤ hi → Covered rs a (hypos_end hs a) → Flows a (hypos_code hs a)
        hypos_flows rs no_hypo a p is n has laid end low high cov = tt
        hypos_flows rs (hypo d place rest) a p is n has laid end low high cov =
            let m = hypos_end rest a in
            let b = expr_end d m in
            let q = deeper (hypos_count rest) p in
            let behind = laid_behind P a (hypos_points rels hosts notes k rest p) (Pts d q ++ Some (aft d q) ∷ []) m (hypos_many rels hosts notes k rest p a) laid in
            let last = laid_behind P m (Pts d q) (Some (aft d q) ∷ []) b (many d q m) behind in
            let has_d = all_behind code.instrs a (hypos_code rest a) (expr_code d m ++ Enter place ∷ []) m (hypos_length rest a) has in
            let here = here_behind code.instrs m (expr_code d m) (Enter place) [] b (expr_length d m) has_d in
            let at : P m ≡ Some q = expr_first rs d of_delta m q is.0 (laid_front P m (Pts d q) _ behind) in
            let up = hypos_up rest a in
            let more = expr_up d m in
            flows_more a m (hypos_code rest a) (expr_code d m ++ Enter place ∷ []) (hypos_length rest a)
            (hypos_flows rs rest a p is.1 n.0 (has_front code.instrs a (hypos_code rest a) _ has) (laid_front P a (hypos_points rels hosts notes k rest p) _ laid) at low (omega (arith, high, more)) (narrow a m cov (omega arith) (omega (arith, more))))
            (flows_more m b (expr_code d m) (Enter place ∷ []) (expr_length d m)
            (expr_flows rs d of_delta m q is.0 n.1 (has_front code.instrs m (expr_code d m) _ has_d) (laid_front P m (Pts d q) _ behind) last.0 (omega (arith, low, up)) (omega (arith, high)) (narrow m b cov up (omega arith))) (
              plain b (Enter place) (aft d q) (deeper (suc (hypos_count rest)) p) here last.0 refl tt
                  (ap (λ t. when t (goes (b + 1) (deeper (suc (hypos_count rest)) p))) (below_agrees (seen d) of_delta (seen_below rs d of_delta m is.0 n.1))) end (omega (arith, low, up, more)) high,
              tt,
            ))
