-- A call or a making of a relation that was looked at does the same again.
use Rattle.std.proofs.Common.{◌≡◌, ℕ, ◌+◌, Bool, true, false, cond, ◌&&◌, List, [], ◌∷◌, take, length, Option, None, Some, refl, sym, ap, subst, ◌∙◌, arith}
use Rattle.std.specs.Prelude.{slice_get, nat_lt}
use Rattle.std.specs.BTreeMap.{BTreeMap, is_at, get, Updates}
use Rattle.std.specs.declared.cmp.Ordering.{Ordering}
use Rattle.std.specs.declared.cmp.Ordering.TheVariants.{Less, Equal, Greater}
use Rattle.std.specs.Ordering.{nat_cmp, is_eq}
use Rattle.std.proofs.lemmas.Bool.{both_ways}
use Rattle.std.proofs.lemmas.Map.Lookups.{exact_pairs, exact_unsigned}
use Rattle.std.proofs.lemmas.Option.{same_Some}
use Rattle.hera_meaning.specs.declared.schemas.RelDecl.{RelDecl}
use Rattle.hera_meaning.specs.Hosts.{Hosts}
use Rattle.hera_code.specs.declared.instrs.Code.{Code}
use Rattle.hera_code.specs.declared.instrs.BodyInfo.{BodyInfo}
use Rattle.hera_meaning.specs.declared.trees.Op.TheVariants.{MakeRel}
use Rattle.hera_meaning.specs.Fits.{is_good_op}
use Rattle.hera_code.specs.declared.instrs.Instr.{Instr}
use Rattle.hera_code.specs.declared.instrs.Instr.TheVariants.{Call}
use Rattle.hera_typed.specs.Points.{Seen, Point, Cut, cut, with, when, all_agree}
use Rattle.hera_typed.specs.Effects.{Body_note, Goal, goal, goes, with_operands, pushed_result, slot_forms, seen_by, effect}
use Rattle.hera_stacks.specs.declared.stacks.Node.{Node}
use Rattle.hera_effects.specs.declared.spots.Spot.{Spot}
use Rattle.hera_effects.specs.declared.spots.Ways.{Ways}
use Rattle.hera_stacks.specs.Stacked.{AreOperands, AreWalks, Grows}
use Rattle.hera_effects.specs.Spots.{IsSpot}
use Rattle.hera_effects.specs.Ways.{Both, AreWays, listed, all_to}
use Rattle.hera_stacks.proofs.Stacking.{operands_grow, operands_one}
use Rattle.hera_effects.proofs.Walking.{one_way}
use Rattle.hera_verify.specs.declared.calls.Calls.{Calls}
use Rattle.hera_verify.specs.Calls.{order, call_of, making_of, Replaces, Leaves, AreLeft, AreCalls}

-- ---- what a call makes of operands

abbrev head_point : List Goal → Option Point
head_point [] = None
head_point (g ∷ gs) = g.point

point_of : (ways : List ℕ) (g : Goal) (o : Option Point) → g ∷ [] ≡ all_to ways o → g.point ≡ o
point_of [] g o e = absurd (omega (arith, ap length e))
point_of (b ∷ ways) g o e = ap head_point e

spot_of : (nodes : List Node) (ways : Option Spot) (s : Spot) (o : Option Point) (q : Point) → ways ≡ Some s → Some q ≡ o → Both (IsSpot nodes) ways o → IsSpot nodes s q
spot_of nodes ways s o q e is h = subst (λ x. Both (IsSpot nodes) x (Some q)) e (subst (λ x. Both (IsSpot nodes) ways x) (sym is) h)

exact : (x y : ℕ × ℕ) → order x y ≡ Equal → x ≡ y
exact x y e = exact_pairs nat_cmp nat_cmp exact_unsigned exact_unsigned x y e

is_equal : (o : Ordering) → is_eq o ≡ true → o ≡ Equal
is_equal Less e = absurd (both_ways (is_eq Less) refl e)
is_equal Equal e = refl
is_equal Greater e = absurd (both_ways (is_eq Greater) refl e)

module _ (code : Code) (rels : List RelDecl) (hosts : Hosts) (notes : List Body_note) where
  abbrev leaves_of : ℕ → List Seen → Option (List Seen)
  leaves_of j ss =
      with (slice_get code.bodies j) (λ b. with (slice_get notes j) (λ n. with (cut b.params [] ss) (λ c. when (nat_lt 0 j && all_agree c.args (take b.params (slot_forms n.slots))) (Some (pushed_result n.result c.rest)))))

  call_is : (k a j : ℕ) (p : Point) → effect code rels hosts notes k a (Call j) p ≡ with (leaves_of j p.operands) (λ ss. goes (a + 1) (with_operands ss p))
  call_is k a j p = by (slice_get code.bodies j) (slice_get notes j)
    where
      last : (v : Bool) (ss : List Seen) → when v (goes (a + 1) (with_operands ss p)) ≡ with (when v (Some ss)) (λ ss. goes (a + 1) (with_operands ss p))
      last true ss = refl
      last false ss = refl

      inner : (b : BodyInfo) (n : Body_note) (o : Option Cut) → with o (λ c. when (nat_lt 0 j && all_agree c.args (take b.params (slot_forms n.slots))) (goes (a + 1) (with_operands (pushed_result n.result c.rest) p)))
          ≡ with (with o (λ c. when (nat_lt 0 j && all_agree c.args (take b.params (slot_forms n.slots))) (Some (pushed_result n.result c.rest)))) (λ ss. goes (a + 1) (with_operands ss p))
      inner b n None = refl
      inner b n (Some c) = last (nat_lt 0 j && all_agree c.args (take b.params (slot_forms n.slots))) (pushed_result n.result c.rest)

      by : (ob : Option BodyInfo) (on : Option Body_note) → with ob (λ b. with on (λ n. with (cut b.params [] p.operands) (λ c. when (nat_lt 0 j && all_agree c.args (take b.params (slot_forms n.slots))) (goes (a + 1) (with_operands (pushed_result n.result c.rest) p)))))
          ≡ with (with ob (λ b. with on (λ n. with (cut b.params [] p.operands) (λ c. when (nat_lt 0 j && all_agree c.args (take b.params (slot_forms n.slots))) (Some (pushed_result n.result c.rest)))))) (λ ss. goes (a + 1) (with_operands ss p))
      by None on = refl
      by (Some b) None = refl
      by (Some b) (Some n) = inner b n (cut b.params [] p.operands)

  abbrev makes_of : ℕ → List Seen → Option (List Seen)
  makes_of n ss = with (cut n [] ss) (λ c. when (is_good_op (MakeRel n)) (with (seen_by rels (MakeRel n) c.args) (λ s. Some (s ∷ c.rest))))

  make_is : (k a n at : ℕ) (p : Point) → effect code rels hosts notes k a (making_of n at) p ≡ with (makes_of n p.operands) (λ ss. goes (a + 1) (with_operands ss p))
  make_is k a n at p = by (cut n [] p.operands)
    where
      last : (v : Bool) (o : Option Seen) (rest : List Seen) → when v (with o (λ s. goes (a + 1) (with_operands (s ∷ rest) p))) ≡ with (when v (with o (λ s. Some (s ∷ rest)))) (λ ss. goes (a + 1) (with_operands ss p))
      last false o rest = refl
      last true None rest = refl
      last true (Some s) rest = refl

      by : (o : Option Cut) → with o (λ c. when (is_good_op (MakeRel n)) (with (seen_by rels (MakeRel n) c.args) (λ s. goes (a + 1) (with_operands (s ∷ c.rest) p))))
          ≡ with (with o (λ c. when (is_good_op (MakeRel n)) (with (seen_by rels (MakeRel n) c.args) (λ s. Some (s ∷ c.rest))))) (λ ss. goes (a + 1) (with_operands ss p))
      by None = refl
      by (Some c) = last (is_good_op (MakeRel n)) (seen_by rels (MakeRel n) c.args) c.rest

  pub call_replaces : (j : ℕ) → Replaces code rels hosts notes (call_of j)
  call_replaces j = (leaves_of j, λ k a at p. call_is k a j p)

  pub make_replaces : (n : ℕ) → Replaces code rels hosts notes (making_of n)
  make_replaces n = (makes_of n, λ k a at p. make_is k a n at p)

  module _ (nodes : List Node) (is : ℕ → ℕ → Instr) where
    pub leaves_so : (k a n at id : ℕ) (p : Point) (w : Ways) (s : Spot) → Replaces code rels hosts notes (is n) → AreOperands nodes id p.operands → w.point ≡ Some s → Both (AreWays nodes) (Some w) (effect code rels hosts notes k a (is n at) p) → Leaves code rels hosts notes nodes (is n) id s.operands
    leaves_so k a n at id p w s replaces own point h = by (replaces.0 p.operands) refl (subst (λ o. Both (AreWays nodes) (Some w) o) (replaces.1 k a at p) h)
      where
        by : (o : Option (List Seen)) → replaces.0 p.operands ≡ o → Both (AreWays nodes) (Some w) (with o (λ ss. goes (a + 1) (with_operands ss p))) → Leaves code rels hosts notes nodes (is n) id s.operands
        by None e h = absurd h
        by (Some ss) e h =
            let spot = spot_of nodes w.point s h.point (with_operands ss p) point (point_of (listed w.first w.second) (goal (a + 1) (with_operands ss p)) h.point h.goals) h.point_is in
            record {
              before = p.operands;
              after = ss;
              operands_are = own;
              left_are = spot.operands;
              does = λ k b at q same. replaces.1 k b at q ∙ ap (λ o. with o (λ ts. goes (b + 1) (with_operands ts q))) (ap replaces.0 same ∙ e);
            }

    pub known_so : (lefts : BTreeMap (ℕ × ℕ) ℕ) (k a n at left : ℕ) (p : Point) (spot s : Spot) (w : Ways) → AreLeft code rels hosts notes nodes is lefts → get order lefts (n, spot.operands) ≡ Some left → IsSpot nodes spot p
        → w.first ≡ Some (a + 1) → w.second ≡ None → w.point ≡ Some s → s.operands ≡ left → s.walks ≡ spot.walks → s.layers ≡ spot.layers → Both (AreWays nodes) (Some w) (effect code rels hosts notes k a (is n at) p)
    known_so lefts k a n at left p spot s w h found own first-is second-is point-is operands walks layers =
        let x = h n spot.operands left found in
        let same : p.operands ≡ x.before = operands_one nodes p.operands x.before spot.operands own.operands x.operands_are in
        subst (λ o. Both (AreWays nodes) (Some w) o) (sym (x.does k a at p same))
        (one_way nodes w s (a + 1) (with_operands x.after p) first-is second-is point-is (record {
          operands = subst (λ (m : ℕ). AreOperands nodes m x.after) (sym operands) x.left_are;
          walks = subst (λ (m : ℕ). AreWalks nodes m p.walks) (sym walks) own.walks;
          layers = layers ∙ own.layers;
        }))

    pub left_more : (before after : BTreeMap (ℕ × ℕ) ℕ) (n id left : ℕ) → AreLeft code rels hosts notes nodes is before → Leaves code rels hosts notes nodes (is n) id left → Updates order before after (n, id) (Some left) → AreLeft code rels hosts notes nodes is after
    left_more before after n id left h own put i operands gone at = by (is_at (order (n, id)) (i, operands)) refl
      where
        by : (v : Bool) → is_at (order (n, id)) (i, operands) ≡ v → Leaves code rels hosts notes nodes (is i) operands gone
        by true e =
            let same : (n, id) ≡ (i, operands) = exact (n, id) (i, operands) (is_equal (order (n, id) (i, operands)) e) in
            let value : left ≡ gone = same_Some left gone (sym put.1 ∙ ap (get order after) same ∙ at) in
            subst (λ (x : ℕ × ℕ). Leaves code rels hosts notes nodes (is x.0) x.1 gone) same (subst (λ (m : ℕ). Leaves code rels hosts notes nodes (is n) id m) value own)
        by false e = h i operands gone (sym (put.0 (i, operands) ∙ ap (λ b. cond b (Some left) (get order before (i, operands))) e) ∙ at)

  pub left_grow : (a b : List Node) (is : ℕ → ℕ → Instr) (lefts : BTreeMap (ℕ × ℕ) ℕ) → Grows a b → AreLeft code rels hosts notes a is lefts → AreLeft code rels hosts notes b is lefts
  left_grow a b is lefts grows h n operands left at =
      let x = h n operands left at in
      record { before = x.before; after = x.after; operands_are = operands_grow a b x.before operands grows x.operands_are; left_are = operands_grow a b x.after left grows x.left_are; does = x.does }

  pub calls_grow : (a b : List Node) (calls : Calls) → Grows a b → AreCalls code rels hosts notes a calls → AreCalls code rels hosts notes b calls
  calls_grow a b calls grows h = record { left = left_grow a b call_of calls.left grows h.left; made = left_grow a b making_of calls.made grows h.made }
