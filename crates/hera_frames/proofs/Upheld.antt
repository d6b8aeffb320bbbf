-- What a change of the layers leaves as it is, and what stays named by layers that are there.
use Rattle.std.proofs.Common.{◌≡◌, ℕ, suc, ◌+◌, ◌<◌, ◌≤◌, Bool, false, List, [], ◌∷◌, length, map, max, min, Option, Some, refl, sym, ap, ◌∙◌, subst, arith}
use Rattle.hera_sets.specs.Rows.{Row}
use Rattle.hera_meaning.specs.Deltas.{Delta, State, atoms, is_fail, rows_at, apply_of}
use Rattle.hera_meaning.proofs.DeltaLaws.{apply_of-kept}
use Rattle.hera_meaning.specs.Values.{table}
use Rattle.hera_code.specs.Machine.{after_layers}
use Rattle.when_overlay.specs.declared.layers.Layer.{Layer}
use Rattle.hera_frames.specs.declared.frames.Frame.{Frame}
use Rattle.hera_reads.specs.Branched.{Branches, pending_of, under, seen_at, lowest}
use Rattle.hera_frames.specs.Items.{Item, held, relation, value_at, operands_at, collected, reach_of, reach}
use Rattle.hera_reads.specs.Walking.{Rest, given, named, Pace, onward, to_come, walk_at, settled, rest_reach, walks_reach}
use Rattle.hera_frames.specs.Waiting.{frame_at, IsWithin, NamesNone, AreKept, IsUpheld, frame_settled}
use Rattle.hera_reads.proofs.Branching.{under_lower, under_here, seen_lower, seen_lowest, under_lowest, length_lowest}
use Rattle.hera_frames.proofs.Settled.{items_collected, items_are_held, reach_collected, walks_settled, walks_are_given, reach_settled}

-- ---- two lists of layers that agree in the oldest ones, over two states

pub record Agree (s : State) (ls : List Layer) (t : State) (ms : List Layer) (n : ℕ) : Type 0 where
  pub ways : (k : ℕ) → k < n → under ls k ≡ under ms k
  pub states : (k : ℕ) → k < n → seen_at s ls k ≡ seen_at t ms k

item_agree : (s : State) (ls : List Layer) (t : State) (ms : List Layer) (n : ℕ) → Agree s ls t ms n → (item : Item) → reach_of item ≤ n → value_at s ls item ≡ value_at t ms item
item_agree s ls t ms n a (held v) h = refl
item_agree s ls t ms n a (relation r k) h = ap (λ u. table (rows_at u r)) (a.states k h)

pub items_agree : (s : State) (ls : List Layer) (t : State) (ms : List Layer) (n : ℕ) → Agree s ls t ms n → (items : List Item) → reach items ≤ n → operands_at s ls items ≡ operands_at t ms items
items_agree s ls t ms n a [] h = refl
items_agree s ls t ms n a (item ∷ items) h =
    λ i. item_agree s ls t ms n a item (omega (arith, h)) i ∷ items_agree s ls t ms n a items (omega (arith, h)) i

rest_agree : (s : State) (ls : List Layer) (t : State) (ms : List Layer) (n : ℕ) → Agree s ls t ms n → (last : Option Row) (r : Rest) → rest_reach r ≤ n → to_come s ls last r ≡ to_come t ms last r
rest_agree s ls t ms n a last (given rows) h = refl
rest_agree s ls t ms n a last (named ahead r k) h = ap (λ u. onward last ahead (rows_at u r)) (a.states k h)

pub walks_agree : (s : State) (ls : List Layer) (t : State) (ms : List Layer) (n : ℕ) → Agree s ls t ms n → (ws : List Pace) → walks_reach ws ≤ n → map (walk_at s ls) ws ≡ map (walk_at t ms) ws
walks_agree s ls t ms n a [] h = refl
walks_agree s ls t ms n a (w ∷ ws) h =
    λ i. record { rows = rest_agree s ls t ms n a w.current w.rest (omega (arith, h)) i; current = w.current; gathered = w.gathered } ∷ walks_agree s ls t ms n a ws (omega (arith, h)) i

frame_agree : (s : State) (ls : List Layer) (t : State) (ms : List Layer) (n : ℕ) → Agree s ls t ms n → (f : Frame) (floor : ℕ) → floor ≤ n → IsWithin floor f → frame_at s ls f ≡ frame_at t ms f
frame_agree s ls t ms n a f floor h w =
    let tip : f.point.tip < n = let g = w.tip in omega (arith, h, g) in
    let operands : reach f.operands.items ≤ n = let g = w.operands in omega (arith, h, g) in
    let walks : walks_reach f.walks ≤ n = let g = w.walks in omega (arith, h, g) in
    λ i. record {
      at = f.point.at;
      operands = items_agree s ls t ms n a f.operands.items operands i;
      locals = f.locals;
      walks = walks_agree s ls t ms n a f.walks walks i;
      layers = a.ways f.point.tip tip i;
      own = f.point.own;
    }

pub frames_agree : (s : State) (ls : List Layer) (t : State) (ms : List Layer) (n : ℕ) → Agree s ls t ms n → (floor : ℕ) (names : Bool) (fs : List Frame) → floor ≤ n → AreKept ls floor names fs → map (frame_at s ls) fs ≡ map (frame_at t ms) fs
frames_agree s ls t ms n a floor names [] h k = refl
frames_agree s ls t ms n a floor names (f ∷ fs) h k =
    let lower : f.point.floor ≤ n = let g = k.1.floor in omega (arith, h, g) in
    λ i. frame_agree s ls t ms n a f floor h k.1 i ∷ frames_agree s ls t ms n a f.point.floor f.point.names_below fs lower k.3 i

pub kept_agree : (ls ms : List Layer) (n : ℕ) → ((k : ℕ) → k < n → under ls k ≡ under ms k) → (floor : ℕ) (names : Bool) (fs : List Frame) → floor ≤ n → AreKept ls floor names fs → AreKept ms floor names fs
kept_agree ls ms n a floor names [] h k = tt
kept_agree ls ms n a floor names (f ∷ fs) h k =
    let tip : f.point.tip < n = let g = k.1.tip in omega (arith, h, g) in
    let lower : f.point.floor ≤ n = let g = k.1.floor in omega (arith, h, g) in
    (subst (λ (ds : List Delta). f.point.own ≤ length ds) (a f.point.tip tip) k.0, k.1, k.2, kept_agree ls ms n a f.point.floor f.point.names_below fs lower k.3)

-- one more layer; the layers that are left when the newest ones are dropped; a pending delta that is stored
pub agree_more : (s : State) (l : Layer) (ls : List Layer) → Agree s ls s (l ∷ ls) (length ls)
agree_more s l ls = record {
  ways = λ k h. sym (under_lower l ls k h);
  states = λ k h. sym (seen_lower s l ls k h);
}

pub agree_lowest : (s : State) (n : ℕ) (ls : List Layer) → Agree s ls s (lowest n ls) (min n (length ls))
agree_lowest s n ls = record {
  ways = λ k h. sym (under_lowest n ls k (omega (arith, h)) (omega (arith, h)));
  states = λ k h. sym (seen_lowest s n ls k (omega (arith, h)) (omega (arith, h)));
}

pub agree_stored : (s : State) (ls ms : List Layer) (n : ℕ) → is_fail (pending_of ls) ≡ false → pending_of ms ≡ atoms [] → ((k : ℕ) → under ms k ≡ under ls k) →
    Agree s ls (apply_of s (pending_of ls)) ms n
agree_stored s ls ms n known none same = record {
  ways = λ k h. sym (same k);
  states = λ k h.
      ap (λ t. after_layers t (under ls k)) (sym (apply_of-kept s (pending_of ls) known))
      ∙ ap (λ d. after_layers (apply_of (apply_of s (pending_of ls)) d) (under ls k)) (sym none)
      ∙ ap (after_layers (apply_of (apply_of s (pending_of ls)) (pending_of ms))) (sym (same k));
}

-- ---- another pending delta, where nothing is named

pub frames_settled_at : (s t : State) (ls ms : List Layer) → ((k : ℕ) → under ms k ≡ under ls k) → (fs : List Frame) → map (frame_at t ms) (map (frame_settled s ls) fs) ≡ map (frame_at s ls) fs
frames_settled_at s t ls ms same [] = refl
frames_settled_at s t ls ms same (f ∷ fs) =
    λ i. record {
      at = f.point.at;
      operands = items_collected s t ls ms f.operands.items i;
      locals = f.locals;
      walks = walks_settled s t ls ms f.walks i;
      layers = same f.point.tip i;
      own = f.point.own;
    } ∷ frames_settled_at s t ls ms same fs i

pub kept_settled : (s : State) (ls : List Layer) (floor : ℕ) (names : Bool) (fs : List Frame) → AreKept ls floor names fs → AreKept ls floor false (map (frame_settled s ls) fs)
kept_settled s ls floor names [] h = tt
kept_settled s ls floor names (f ∷ fs) h =
    let operands : reach (map (collected s ls) f.operands.items) ≤ floor = let e = reach_collected s ls f.operands.items in omega (arith, e) in
    let walks : walks_reach (map (settled s ls) f.walks) ≤ floor = let e = reach_settled s ls f.walks in omega (arith, e) in
    (h.0, record { tip = h.1.tip; operands = operands; walks = walks; floor = h.1.floor }, (λ _. record { operands = items_are_held s ls f.operands.items; walks = walks_are_given s ls f.walks; below = refl }), kept_settled s ls f.point.floor f.point.names_below fs h.3)

-- ---- what instructions keep

module _ (c : Branches) (own floor : ℕ) (items : List Item) (walks : List Pace) (names : Bool) (fs : List Frame) where
  pub upheld_operands : (more : List Item) → reach more ≤ length c.layers → IsUpheld c own floor items walks names fs → IsUpheld c own floor more walks names fs
  upheld_operands more h u = record { tip = u.tip; owned = u.owned; operands = h; paces = u.paces; below = u.below; callers = u.callers }

  pub upheld_walks : (more : List Pace) → walks_reach more ≤ length c.layers → IsUpheld c own floor items walks names fs → IsUpheld c own floor items more names fs
  upheld_walks more h u = record { tip = u.tip; owned = u.owned; operands = u.operands; paces = h; below = u.below; callers = u.callers }

  pub upheld_enter : (d : Delta) → IsUpheld c own floor items walks names fs →
      IsUpheld (record c { layers = record { parent = Some c.tip; delta = d } ∷ c.layers; tip = length c.layers }) (own + 1) floor items walks names fs
  upheld_enter d u =
      let l : Layer = record { parent = Some c.tip; delta = d } in
      let h : own ≤ length (under c.layers c.tip) = u.owned in
      let tip : c.tip < length c.layers = u.tip in
      let operands : reach items ≤ length c.layers = u.operands in
      let paces : walks_reach walks ≤ length c.layers = u.paces in
      let below : floor ≤ length c.layers = u.below in
      record {
        tip = omega arith;
        owned = subst (λ (ds : List Delta). own + 1 ≤ length ds) (sym (under_here (record { parent = Some c.tip; delta = d }) c.layers (length c.layers) refl)) (omega (arith, h));
        operands = omega (arith, operands);
        paces = omega (arith, paces);
        below = omega (arith, below);
        callers = kept_agree c.layers (record { parent = Some c.tip; delta = d } ∷ c.layers) (length c.layers) (λ k g. sym (under_lower (record { parent = Some c.tip; delta = d }) c.layers k g)) floor names fs u.below u.callers;
      }

  -- a call: the running frame waits from now on
  pub upheld_call : (f : Frame) (some : Bool) → f.point.tip ≡ c.tip → f.point.own ≡ own → f.point.floor ≡ floor → f.point.names_below ≡ names → reach f.operands.items ≤ length c.layers → f.walks ≡ walks →
      (some ≡ false → NamesNone f) → IsUpheld c own floor items walks names fs → IsUpheld c 0 (length c.layers) [] [] some (f ∷ fs)
  upheld_call f some tip owns floors below operands paces none u =
      let within : f.point.tip < length c.layers = subst (λ k. k < length c.layers) (sym tip) u.tip in
      let owned : f.point.own ≤ length (under c.layers f.point.tip) = subst (λ k. f.point.own ≤ length (under c.layers k)) (sym tip) (subst (λ k. k ≤ length (under c.layers c.tip)) (sym owns) u.owned) in
      let reached : walks_reach f.walks ≤ length c.layers = subst (λ ws. walks_reach ws ≤ length c.layers) (sym paces) u.paces in
      let lower : f.point.floor ≤ length c.layers = subst (λ k. k ≤ length c.layers) (sym floors) u.below in
      let callers : AreKept c.layers f.point.floor f.point.names_below fs = subst (λ k. AreKept c.layers k f.point.names_below fs) (sym floors) (subst (λ b. AreKept c.layers floor b fs) (sym below) u.callers) in
      record {
        tip = u.tip;
        owned = omega arith;
        operands = omega arith;
        paces = omega arith;
        below = omega arith;
        callers = (owned, record { tip = within; operands = operands; walks = reached; floor = lower }, none, callers);
      }

  -- the layers that `release` leaves
  abbrev pub needed : ℕ
  needed = max (max floor (suc c.tip)) (max (reach items) (walks_reach walks))

  pub upheld_release : IsUpheld c own floor items walks names fs → IsUpheld (record c { layers = lowest needed c.layers }) own floor items walks names fs
  upheld_release u =
      let long : length (lowest needed c.layers) ≡ min needed (length c.layers) = length_lowest needed c.layers in
      let tip : c.tip < length c.layers = u.tip in
      let operands : reach items ≤ length c.layers = u.operands in
      let paces : walks_reach walks ≤ length c.layers = u.paces in
      let below : floor ≤ length c.layers = u.below in
      record {
        tip = omega (arith, long, tip);
        owned = subst (λ (ds : List Delta). own ≤ length ds) (sym (under_lowest needed c.layers c.tip (omega arith) u.tip)) u.owned;
        operands = omega (arith, long, operands);
        paces = omega (arith, long, paces);
        below = omega (arith, long, below);
        callers = kept_agree c.layers (lowest needed c.layers) (min needed (length c.layers)) (λ k g. sym (under_lowest needed c.layers k (omega (arith, g)) (omega (arith, g)))) floor names fs (omega (arith, below)) u.callers;
      }

  -- another pending delta
  pub upheld_pending : (ms : List Layer) → length ms ≡ length c.layers → ((k : ℕ) → under ms k ≡ under c.layers k) → IsUpheld c own floor items walks names fs →
      IsUpheld (record c { layers = ms; tip = c.tip }) own floor items walks names fs
  upheld_pending ms long same u =
      let tip : c.tip < length c.layers = u.tip in
      let operands : reach items ≤ length c.layers = u.operands in
      let paces : walks_reach walks ≤ length c.layers = u.paces in
      let below : floor ≤ length c.layers = u.below in
      record {
        tip = omega (arith, long, tip);
        owned = subst (λ (ds : List Delta). own ≤ length ds) (sym (same c.tip)) u.owned;
        operands = omega (arith, long, operands);
        paces = omega (arith, long, paces);
        below = omega (arith, long, below);
        callers = kept_agree c.layers ms (length c.layers) (λ k g. sym (same k)) floor names fs u.below u.callers;
      }
