-- The arguments of calls, taken one after another while they agree with the forms of the parameters.
use Rattle.std.proofs.Common.{◌≡◌, ◌<◌, ◌≤◌, ℕ, zero, suc, ◌+◌, Bool, true, false, ◌&&◌, List, [], ◌∷◌, map, take, drop, length, Option, None, Some, refl, sym, ap, subst, ◌∙◌, arith}
use Rattle.std.specs.Prelude.{slice_get}
use Rattle.std.proofs.lemmas.Option.{none-some}
use Rattle.hera_meaning.specs.Forms.{Form}
use Rattle.hera_typed.specs.Points.{Seen, Point, Cut, cut, with, when, agrees, all_agree}
use Rattle.hera_typed.specs.Notes.{slot_note}
use Rattle.hera_typed.specs.declared.notes.SlotNote.{SlotNote}
use Rattle.hera_typed.specs.Effects.{Goal, goes, with_operands, pushed_result, slot_forms}
use Rattle.hera_stacks.specs.declared.stacks.Node.{Node}
use Rattle.hera_effects.specs.declared.spots.Spot.{Spot}
use Rattle.hera_effects.specs.declared.spots.Ways.{Ways}
use Rattle.hera_stacks.specs.Stacked.{AreOperands, Grows}
use Rattle.hera_effects.specs.Spots.{IsSpot}
use Rattle.hera_effects.specs.Ways.{Both, AreWays}
use Rattle.hera_effects.specs.Plain.{taken}
use Rattle.hera_effects.specs.Operations.{called_off}
use Rattle.hera_stacks.proofs.Flattened.{drop_at, drop_past}
use Rattle.hera_effects.proofs.Effecting.{replaced}
use Rattle.hera_effects.proofs.Walking.{one_way}

-- ---- forms that do not fit

abbrev off : ℕ → List Seen → List Seen → List Form → Option (List Seen)
off n args ss fs = with (cut n args ss) (λ c. when (all_agree c.args fs) (Some c.rest))

and_false : (a b : Bool) → b ≡ false → a && b ≡ false
and_false true b e = e
and_false false b e = refl

one_more : (s : Seen) (args : List Seen) (fs : List Form) (n : ℕ) → all_agree args (drop (suc n) fs) ≡ false → all_agree (s ∷ args) (drop n fs) ≡ false
one_more s args [] zero e = refl
one_more s args [] (suc n) e = refl
one_more s args (f ∷ fs) zero e = and_false (agrees s f) (all_agree args fs) e
one_more s args (f ∷ fs) (suc n) e = one_more s args fs n e

-- whatever stands below
unfit : (n : ℕ) (args ss : List Seen) (fs : List Form) → all_agree args (drop n fs) ≡ false → off n args ss fs ≡ None
unfit zero args ss fs e = ap (λ v. when v (Some ss)) e
unfit (suc n) args [] fs e = refl
unfit (suc n) args (s ∷ ss) fs e = unfit n (s ∷ args) ss fs (one_more s args fs n e)

too_long : (n : ℕ) (ss : List Seen) (fs : List Form) → length fs < n → off n [] ss fs ≡ None
too_long zero ss fs h = absurd (omega (arith, h))
too_long (suc n) [] fs h = refl
too_long (suc n) (s ∷ ss) fs h = unfit n (s ∷ []) ss fs (ap (all_agree (s ∷ [])) (drop_past fs n (omega (arith, h))))

stops : (nodes : List Node) (n : ℕ) (args ss : List Seen) (fs : List Form) (f : Form) → slice_get fs n ≡ Some f → Both (AreOperands nodes) None (taken (Some f) ss) → off (suc n) args ss fs ≡ None
stops nodes n args [] fs f at h = refl
stops nodes n args (s ∷ ss) fs f at h = by (agrees s f) refl h
  where
    by : (v : Bool) → agrees s f ≡ v → Both (AreOperands nodes) None (when v (Some ss)) → off n (s ∷ args) ss fs ≡ None
    by true e h = absurd h
    by false e h = unfit n (s ∷ args) ss fs (ap (all_agree (s ∷ args)) (drop_at fs n f at) ∙ ap (λ v. v && all_agree args (drop (n + 1) fs)) e)

took : (nodes : List Node) (below : ℕ) (ss : List Seen) (f : Form) → Both (AreOperands nodes) (Some below) (taken (Some f) ss) → (s : Seen) × (rest : List Seen) × (ss ≡ s ∷ rest) × (agrees s f ≡ true) × AreOperands nodes below rest
took nodes below [] f h = absurd h
took nodes below (s ∷ ss) f h = by (agrees s f) refl h
  where
    by : (v : Bool) → agrees s f ≡ v → Both (AreOperands nodes) (Some below) (when v (Some ss)) → (t : Seen) × (rest : List Seen) × (s ∷ ss ≡ t ∷ rest) × (agrees t f ≡ true) × AreOperands nodes below rest
    by true e h = (s, ss, refl, e, h)
    by false e h = absurd h

-- ---- the first forms

drop_take : (n : ℕ) (fs : List Form) → drop n (take n fs) ≡ []
drop_take zero fs = refl
drop_take (suc n) [] = refl
drop_take (suc n) (f ∷ fs) = drop_take n fs

get_take : (n i : ℕ) (fs : List Form) (f : Form) → i < n → slice_get fs i ≡ Some f → slice_get (take n fs) i ≡ Some f
get_take n i [] f h at = absurd (none-some f at)
get_take zero i (g ∷ fs) f h at = absurd (omega (arith, h))
get_take (suc n) zero (g ∷ fs) f h at = at
get_take (suc n) (suc i) (g ∷ fs) f h at = get_take n i fs f (omega (arith, h)) at

pub slots_many : (slots : List SlotNote) → length (slot_forms (map slot_note slots)) ≡ length slots
slots_many [] = refl
slots_many (x ∷ slots) = ap suc (slots_many slots)

-- ---- one after another

-- those taken so far agree with the last forms; what is left to take of the others is what was to be taken at first
pub record IsCalling (nodes : List Node) (rest left count : ℕ) (fs : List Form) (ss : List Seen) : Type 0 where
  pub args : List Seen
  pub others : List Seen
  pub rest_is : AreOperands nodes rest others
  pub goes_on : cut left args others ≡ cut count [] ss
  pub agree : all_agree args (drop left (take count fs)) ≡ true

module _ (nodes : List Node) where
  pub begins : (rest count : ℕ) (fs : List Form) (ss : List Seen) → AreOperands nodes rest ss → IsCalling nodes rest count count fs ss
  begins rest count fs ss h = record { args = []; others = ss; rest_is = h; goes_on = refl; agree = ap (all_agree []) (drop_take count fs) }

  pub goes_further : (rest below left more count : ℕ) (fs : List Form) (ss : List Seen) (f : Form) → more ≡ suc left → left < count → slice_get fs left ≡ Some f
      → ((ts : List Seen) → AreOperands nodes rest ts → Both (AreOperands nodes) (Some below) (taken (Some f) ts)) → IsCalling nodes rest more count fs ss → IsCalling nodes below left count fs ss
  goes_further rest below left more count fs ss f e inside at takes h =
      let x = took nodes below h.others f (takes h.others h.rest_is) in
      let gs = take count fs in
      let before : all_agree h.args (drop (left + 1) gs) ≡ true = ap (λ (n : ℕ). all_agree h.args (drop n gs)) (omega (arith, e)) ∙ h.agree in
      record {
        args = x.0 ∷ h.args;
        others = x.1;
        rest_is = x.4;
        goes_on = sym (ap (λ m. cut m h.args (x.0 ∷ x.1)) e) ∙ ap (cut more h.args) (sym x.2) ∙ h.goes_on;
        agree = ap (all_agree (x.0 ∷ h.args)) (drop_at gs left f (get_take count left fs f inside at)) ∙ ap (λ v. v && all_agree h.args (drop (left + 1) gs)) x.3 ∙ before;
      }

  pub ends_early : (rest left more count : ℕ) (fs : List Form) (ss : List Seen) (f : Form) → more ≡ suc left → left < count → slice_get fs left ≡ Some f
      → ((ts : List Seen) → AreOperands nodes rest ts → Both (AreOperands nodes) None (taken (Some f) ts)) → IsCalling nodes rest more count fs ss → Both (AreOperands nodes) None (called_off count fs ss)
  ends_early rest left more count fs ss f e inside at takes h =
      let gs = take count fs in
      let none = stops nodes left h.args h.others gs f (get_take count left fs f inside at) (takes h.others h.rest_is) in
      let is : called_off count fs ss ≡ None = ap (λ o. with o (λ c. when (all_agree c.args gs) (Some c.rest))) (sym h.goes_on ∙ ap (λ m. cut m h.args h.others) e) ∙ none in
      subst (λ o. Both (AreOperands nodes) None o) (sym is) tt

  pub ends_well : (rest left count : ℕ) (fs : List Form) (ss : List Seen) → left ≡ 0 → IsCalling nodes rest left count fs ss → Both (AreOperands nodes) (Some rest) (called_off count fs ss)
  ends_well rest left count fs ss e h =
      let gs = take count fs in
      let all : all_agree h.args gs ≡ true = sym (ap (λ (n : ℕ). all_agree h.args (drop n gs)) e) ∙ h.agree in
      let is : called_off count fs ss ≡ Some h.others = ap (λ o. with o (λ c. when (all_agree c.args gs) (Some c.rest))) (sym h.goes_on ∙ ap (λ m. cut m h.args h.others) e) ∙ ap (λ v. when v (Some h.others)) all in
      subst (λ o. Both (AreOperands nodes) (Some rest) o) (sym is) h.rest_is

  pub too_few_slots : (count : ℕ) (fs : List Form) (ss : List Seen) → length fs < count → Both (AreOperands nodes) None (called_off count fs ss)
  too_few_slots count fs ss h = subst (λ o. Both (AreOperands nodes) None o) (sym (ap (off count [] ss) (take_all count fs (omega (arith, h))) ∙ too_long count ss fs h)) tt
    where
      take_all : (n : ℕ) (xs : List Form) → length xs ≤ n → take n xs ≡ xs
      take_all zero [] h = refl
      take_all (suc n) [] h = refl
      take_all zero (x ∷ xs) h = absurd (omega (arith, h))
      take_all (suc n) (x ∷ xs) h = ap (λ ys. x ∷ ys) (take_all n xs (omega (arith, h)))

-- ---- calls

off_is : (o : Option Cut) (fits : Cut → Bool) (go : List Seen → Option (List Goal)) → with (with o (λ c. when (fits c) (Some c.rest))) go ≡ with o (λ c. when (fits c) (go c.rest))
off_is None fits go = refl
off_is (Some c) fits go = by (fits c)
  where
    by : (v : Bool) → with (when v (Some c.rest)) go ≡ when v (go c.rest)
    by true = refl
    by false = refl

module _ (before nodes : List Node) where
  pub calls_not : (count : ℕ) (fs : List Form) (ss : List Seen) (go : List Seen → Option (List Goal)) → Both (AreOperands before) None (called_off count fs ss) → Both (AreWays nodes) None (with (cut count [] ss) (λ c. when (all_agree c.args (take count fs)) (go c.rest)))
  calls_not count fs ss go h = subst (λ o. Both (AreWays nodes) None o) (off_is (cut count [] ss) (λ c. all_agree c.args (take count fs)) go) (by (called_off count fs ss) h)
    where
      by : (o : Option (List Seen)) → Both (AreOperands before) None o → Both (AreWays nodes) None (with o go)
      by None h = tt
      by (Some xs) h = absurd h

  pub calls_so : (rest id count next : ℕ) (fs : List Form) (f : Option Form) (p : Point) (spot s : Spot) (w : Ways) → Both (AreOperands before) (Some rest) (called_off count fs p.operands)
      → Grows before nodes → IsSpot before spot p → ((xs : List Seen) → AreOperands before rest xs → AreOperands nodes id (pushed_result f xs)) → s.operands ≡ id → s.walks ≡ spot.walks → s.layers ≡ spot.layers → w.first ≡ Some next → w.second ≡ None → w.point ≡ Some s
      → Both (AreWays nodes) (Some w) (with (cut count [] p.operands) (λ c. when (all_agree c.args (take count fs)) (goes next (with_operands (pushed_result f c.rest) p))))
  calls_so rest id count next fs f p spot s w h grows is pushed operands walks layers first-is second-is point-is =
      subst (λ o. Both (AreWays nodes) (Some w) o) (off_is (cut count [] p.operands) (λ c. all_agree c.args (take count fs)) (λ xs. goes next (with_operands (pushed_result f xs) p))) (by (called_off count fs p.operands) h)
    where
      by : (o : Option (List Seen)) → Both (AreOperands before) (Some rest) o → Both (AreWays nodes) (Some w) (with o (λ xs. goes next (with_operands (pushed_result f xs) p)))
      by None h = absurd h
      by (Some xs) h = one_way nodes w s next (with_operands (pushed_result f xs) p) first-is second-is point-is (replaced before nodes spot s id p (pushed_result f xs) operands walks layers grows is (pushed xs h))
