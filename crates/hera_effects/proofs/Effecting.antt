-- Operations, calls and walks do what their effects say.
use Rattle.std.proofs.Common.{◌≡◌, ℕ, zero, suc, Bool, true, false, ◌&&◌, List, [], ◌∷◌, ◌++◌, map, take, reverse, Option, None, Some, refl, sym, ap, subst, ◌∙◌, arith}
use Rattle.std.specs.Prelude.{nat_lt}
use Rattle.std.specs.Option.{option_map}
use Rattle.std.proofs.lemmas.Bool.{lt-ltb}
use Rattle.std.proofs.lemmas.Option.{none-some, same_Some}
use Rattle.std.proofs.lemmas.List.{reverse-append, reverse-reverse}
use Rattle.hera_meaning.specs.declared.schemas.RelDecl.{RelDecl}
use Rattle.hera_meaning.specs.declared.trees.Op.{Op}
use Rattle.hera_meaning.specs.Forms.{Form}
use Rattle.hera_meaning.specs.Fits.{is_good_op}
use Rattle.hera_code.specs.declared.instrs.BodyInfo.{BodyInfo}
use Rattle.hera_typed.specs.Points.{Seen, Point, Cut, cut, with, when, first, all_agree}
use Rattle.hera_typed.specs.Effects.{Slot_note, Body_note, Goal, goes, goes_or, with_operands, pushed_result, slot_forms, walks_into, seen_by}
use Rattle.hera_stacks.specs.declared.forms.FlatForm.{FlatForm}
use Rattle.hera_stacks.specs.declared.forms.FlatSeen.{FlatSeen}
use Rattle.hera_stacks.specs.declared.stacks.Node.{Node}
use Rattle.hera_effects.specs.declared.spots.Spot.{Spot}
use Rattle.hera_effects.specs.declared.spots.Ways.{Ways}
use Rattle.hera_effects.specs.declared.cuts.Cut.{Cut as FlatCut}
use Rattle.hera_stacks.specs.Flat.{flat_kinds, flat_form, flat_seen}
use Rattle.hera_stacks.specs.Stacked.{node_at, AreOperands, AreWalks, Grows}
use Rattle.hera_effects.specs.Spots.{IsSpot}
use Rattle.hera_effects.specs.Ways.{Both, AreWays}
use Rattle.hera_effects.specs.Operations.{IsCut, flat_all_agree, flat_seen_by}
use Rattle.hera_stacks.proofs.Stacking.{walks_grow, operands_grow}
use Rattle.hera_effects.proofs.Moving.{none_first, some_first}
use Rattle.hera_effects.proofs.Walking.{one_way}
use Rattle.hera_effects.proofs.Operating.{all_agree_is, seen_by_is}

-- ---- operands taken, one after another

-- those taken so far, the oldest first, and the others; what is left to take of them is what was to be taken at first
pub record IsTaking (nodes : List Node) (args : List FlatSeen) (rest left count : ℕ) (ss : List Seen) : Type 0 where
  pub taken : List Seen
  pub others : List Seen
  pub args_is : args ≡ reverse (map flat_seen taken)
  pub rest_is : AreOperands nodes rest others
  pub goes : cut left taken others ≡ cut count [] ss

module _ (nodes : List Node) where
  pub takes_first : (rest count : ℕ) (ss : List Seen) → AreOperands nodes rest ss → IsTaking nodes [] rest count count ss
  takes_first rest count ss h = record { taken = []; others = ss; args_is = refl; rest_is = h; goes = refl }

  -- one operand more
  pub takes_more : (args : List FlatSeen) (rest left more count : ℕ) (ss : List Seen) (n : Node) → more ≡ suc left → node_at nodes rest ≡ Some n → IsTaking nodes args rest more count ss → IsTaking nodes (args ++ n.seen ∷ []) n.below left count ss
  takes_more args rest left more count ss n e at h =
      let parts = some_first nodes rest n h.others at h.rest_is in
      record {
        taken = parts.0 ∷ h.taken;
        others = parts.1;
        args_is = ap (λ xs. xs ++ n.seen ∷ []) h.args_is ∙ ap (λ s. reverse (map flat_seen h.taken) ++ s ∷ []) parts.3 ∙ sym (reverse-append (flat_seen parts.0 ∷ []) (map flat_seen h.taken));
        rest_is = parts.4;
        goes = sym (ap (λ m. cut m h.taken (parts.0 ∷ parts.1)) e) ∙ ap (cut more h.taken) (sym parts.2) ∙ h.goes;
      }

  -- there are no more
  pub takes_none : (args : List FlatSeen) (rest left more count : ℕ) (ss : List Seen) → more ≡ suc left → node_at nodes rest ≡ None → IsTaking nodes args rest more count ss → Both (IsCut nodes) None (cut count [] ss)
  takes_none args rest left more count ss e at h =
      let empty = none_first nodes rest h.others at h.rest_is in
      subst (λ o. Both (IsCut nodes) None o) (sym (ap (λ m. cut m h.taken []) e) ∙ ap (cut more h.taken) (sym empty) ∙ h.goes) tt

  -- as many as were to be taken
  pub takes_all : (args : List FlatSeen) (c : FlatCut) (left count : ℕ) (ss : List Seen) → left ≡ 0 → c.args.items ≡ reverse args → IsTaking nodes args c.rest left count ss → Both (IsCut nodes) (Some c) (cut count [] ss)
  takes_all args c left count ss e turned h =
      subst (λ o. Both (IsCut nodes) (Some c) o) (sym (ap (λ m. cut m h.taken h.others) e) ∙ h.goes)
      (record { args = turned ∙ ap reverse h.args_is ∙ reverse-reverse (map flat_seen h.taken); rest = h.rest_is })

-- ---- operations and calls

module _ (before nodes : List Node) where
  pub replaced : (spot s : Spot) (id : ℕ) (p : Point) (ss : List Seen) → s.operands ≡ id → s.walks ≡ spot.walks → s.layers ≡ spot.layers → Grows before nodes → IsSpot before spot p → AreOperands nodes id ss → IsSpot nodes s (with_operands ss p)
  replaced spot s id p ss operands walks layers grows h is = record {
    operands = subst (λ (x : ℕ). AreOperands nodes x ss) (sym operands) is;
    walks = subst (λ (x : ℕ). AreWalks nodes x p.walks) (sym walks) (walks_grow before nodes p.walks spot.walks grows h.walks);
    layers = layers ∙ h.layers;
  }

  -- too few operands
  pub too_few : (o : Option Cut) (go : Cut → Option (List Goal)) → Both (IsCut before) None o → Both (AreWays nodes) None (with o go)
  too_few None go h = tt
  too_few (Some c) go h = absurd h

  pub as_cut : (r : Option Ways) (taken : FlatCut) (o : Option Cut) (go : Cut → Option (List Goal)) → Both (IsCut before) (Some taken) o → ((c : Cut) → IsCut before taken c → Both (AreWays nodes) r (go c)) → Both (AreWays nodes) r (with o go)
  as_cut r taken None go h is = absurd h
  as_cut r taken (Some c) go h is = is c h

  -- its places are no good
  pub prim_bad : (op : Op) (o : Option Cut) (go : Cut → Option (List Goal)) → is_good_op op ≡ false → Both (AreWays nodes) None (with o (λ c. when (is_good_op op) (go c)))
  prim_bad op None go e = tt
  prim_bad op (Some c) go e = subst (λ v. Both (AreWays nodes) None (when v (go c))) (sym e) tt

  -- it doesn't take these operands
  pub prim_not : (rels : List RelDecl) (op : Op) (next : ℕ) (p : Point) (taken : FlatCut) (o : Option Cut) → Both (IsCut before) (Some taken) o → flat_seen_by rels op taken.args.items ≡ None
      → Both (AreWays nodes) None (with o (λ c. when (is_good_op op) (with (seen_by rels op c.args) (λ s. goes next (with_operands (s ∷ c.rest) p)))))
  prim_not rels op next p taken None h e = absurd h
  prim_not rels op next p taken (Some c) h e = by (is_good_op op) (seen_by rels op c.args) (sym (ap (flat_seen_by rels op) h.args ∙ seen_by_is rels op c.args) ∙ e)
    where
      by : (v : Bool) (o : Option Seen) → option_map flat_seen o ≡ None → Both (AreWays nodes) None (when v (with o (λ s. goes next (with_operands (s ∷ c.rest) p))))
      by true None e = tt
      by false None e = tt
      by v (Some s) e = absurd (none-some (flat_seen s) (sym e))

  pub prim_so : (rels : List RelDecl) (op : Op) (next id : ℕ) (p : Point) (spot s : Spot) (w : Ways) (seen : FlatSeen) (taken : FlatCut) (o : Option Cut) → Both (IsCut before) (Some taken) o → is_good_op op ≡ true → flat_seen_by rels op taken.args.items ≡ Some seen
      → Grows before nodes → IsSpot before spot p → node_at nodes id ≡ Some (record { seen = seen; gathers = flat_kinds []; below = taken.rest }) → s.operands ≡ id → s.walks ≡ spot.walks → s.layers ≡ spot.layers → w.first ≡ Some next → w.second ≡ None → w.point ≡ Some s
      → Both (AreWays nodes) (Some w) (with o (λ c. when (is_good_op op) (with (seen_by rels op c.args) (λ s. goes next (with_operands (s ∷ c.rest) p)))))
  prim_so rels op next id p spot s w seen taken None h good e grows is at operands walks layers first-is second-is point-is = absurd h
  prim_so rels op next id p spot s w seen taken (Some c) h good e grows is at operands walks layers first-is second-is point-is =
      subst (λ v. Both (AreWays nodes) (Some w) (when v (with (seen_by rels op c.args) (λ s. goes next (with_operands (s ∷ c.rest) p))))) (sym good)
      (by (seen_by rels op c.args) (sym (ap (flat_seen_by rels op) h.args ∙ seen_by_is rels op c.args) ∙ e))
    where
      by : (o : Option Seen) → option_map flat_seen o ≡ Some seen → Both (AreWays nodes) (Some w) (with o (λ s. goes next (with_operands (s ∷ c.rest) p)))
      by None e = absurd (none-some seen e)
      by (Some x) e =
          let own : seen ≡ flat_seen x = sym (same_Some (flat_seen x) seen e) in
          let node : node_at nodes id ≡ Some (record { seen = flat_seen x; gathers = flat_kinds []; below = taken.rest }) = at ∙ ap (λ (y : FlatSeen). Some (record { seen = y; gathers = flat_kinds []; below = taken.rest })) own in
          one_way nodes w s next (with_operands (x ∷ c.rest) p) first-is second-is point-is
          (replaced spot s id p (x ∷ c.rest) operands walks layers grows is (taken.rest, node, operands_grow before nodes c.rest taken.rest grows h.rest))

  -- the operands are not of the parameters' forms
  pub call_not : (c : Cut) (taken : FlatCut) (forms : List FlatForm) (fs : List Form) (o : Option (List Goal)) → IsCut before taken c → forms ≡ map flat_form fs → flat_all_agree taken.args.items forms ≡ false → Both (AreWays nodes) None (when (all_agree c.args fs) o)
  call_not c taken forms fs o h are e =
      subst (λ v. Both (AreWays nodes) None (when v o)) (sym (sym (all_agree_is c.args fs) ∙ sym (λ i. flat_all_agree (h.args i) (are i)) ∙ e)) tt

  pub call_so : (c : Cut) (taken : FlatCut) (forms : List FlatForm) (fs : List Form) (f : Option Form) (next id : ℕ) (p : Point) (spot s : Spot) (w : Ways) → IsCut before taken c → forms ≡ map flat_form fs → flat_all_agree taken.args.items forms ≡ true
      → Grows before nodes → IsSpot before spot p → AreOperands nodes id (pushed_result f c.rest) → s.operands ≡ id → s.walks ≡ spot.walks → s.layers ≡ spot.layers → w.first ≡ Some next → w.second ≡ None → w.point ≡ Some s
      → Both (AreWays nodes) (Some w) (when (all_agree c.args fs) (goes next (with_operands (pushed_result f c.rest) p)))
  call_so c taken forms fs f next id p spot s w h are e grows is at operands walks layers first-is second-is point-is =
      subst (λ v. Both (AreWays nodes) (Some w) (when v (goes next (with_operands (pushed_result f c.rest) p)))) (sym (sym (all_agree_is c.args fs) ∙ sym (λ i. flat_all_agree (h.args i) (are i)) ∙ e))
      (one_way nodes w s next (with_operands (pushed_result f c.rest) p) first-is second-is point-is (replaced spot s id p (pushed_result f c.rest) operands walks layers grows is at))

module _ (nodes : List Node) where
  abbrev pub called : ℕ → ℕ → Point → Option BodyInfo → Option Body_note → Option (List Goal)
  called j next p ob on =
      with ob (λ b. with on (λ n. with (cut b.params [] p.operands) (λ c. when (nat_lt 0 j && all_agree c.args (take b.params (slot_forms n.slots))) (goes next (with_operands (pushed_result n.result c.rest) p)))))

  -- main is not called
  pub call_main : (j next : ℕ) (p : Point) (ob : Option BodyInfo) (on : Option Body_note) → j ≡ 0 → Both (AreWays nodes) None (called j next p ob on)
  call_main j next p ob on e = subst (λ (m : ℕ). Both (AreWays nodes) None (called m next p ob on)) (sym e) (by ob on)
    where
      inner : (b : BodyInfo) (n : Body_note) (o : Option Cut) → Both (AreWays nodes) None (with o (λ c. when (nat_lt 0 0 && all_agree c.args (take b.params (slot_forms n.slots))) (goes next (with_operands (pushed_result n.result c.rest) p))))
      inner b n None = tt
      inner b n (Some c) = tt

      by : (ob : Option BodyInfo) (on : Option Body_note) → Both (AreWays nodes) None (called 0 next p ob on)
      by None on = tt
      by (Some b) None = tt
      by (Some b) (Some n) = inner b n (cut b.params [] p.operands)

  pub call_unknown : (j next : ℕ) (p : Point) (ob : Option BodyInfo) (on : Option Body_note) → ob ≡ None → Both (AreWays nodes) None (called j next p ob on)
  call_unknown j next p ob on e = subst (λ o. Both (AreWays nodes) None (called j next p o on)) (sym e) tt

  pub call_unnoted : (j next : ℕ) (p : Point) (ob : Option BodyInfo) (on : Option Body_note) → on ≡ None → Both (AreWays nodes) None (called j next p ob on)
  call_unnoted j next p ob on e = subst (λ o. Both (AreWays nodes) None (called j next p ob o)) (sym e) (by ob)
    where
      by : (ob : Option BodyInfo) → Both (AreWays nodes) None (called j next p ob None)
      by None = tt
      by (Some b) = tt

  some_number : (j : ℕ) → (j ≡ 0 → ⊥) → nat_lt 0 j ≡ true
  some_number zero h = absurd (h refl)
  some_number (suc j) h = lt-ltb 0 (suc j) (omega arith)

  pub calls : (r : Option Ways) (j next : ℕ) (p : Point) (ob : Option BodyInfo) (on : Option Body_note) (b : BodyInfo) (n : Body_note) → (j ≡ 0 → ⊥) → ob ≡ Some b → on ≡ Some n
      → Both (AreWays nodes) r (with (cut b.params [] p.operands) (λ c. when (all_agree c.args (take b.params (slot_forms n.slots))) (goes next (with_operands (pushed_result n.result c.rest) p))))
      → Both (AreWays nodes) r (called j next p ob on)
  calls r j next p ob on b n some ob-is on-is h =
      subst (λ o. Both (AreWays nodes) r (called j next p o on)) (sym ob-is) (subst (λ o. Both (AreWays nodes) r (called j next p (Some b) o)) (sym on-is)
      (subst (λ v. Both (AreWays nodes) r (with (cut b.params [] p.operands) (λ c. when (v && all_agree c.args (take b.params (slot_forms n.slots))) (goes next (with_operands (pushed_result n.result c.rest) p))))) (sym (some_number j some)) h))

  -- the slot of a walk's tuples
  pub next_is : (r : Option Ways) (o : Option Slot_note) (p : Point) (a b : ℕ)
      → Both (AreWays nodes) r (first p.walks (λ w ws. with (option_map (λ (n : Slot_note). n.form) o) (λ g. when (walks_into w.over g) (goes_or a b p)))) → Both (AreWays nodes) r (first p.walks (λ w ws. with o (λ n. when (walks_into w.over n.form) (goes_or a b p))))
  next_is r None p a b h = h
  next_is r (Some n) p a b h = h
