-- What stays of a machine at work where its layers change.
use Rattle.std.proofs.Common.{◌≡◌, ℕ, suc, ◌+◌, ◌-◌, ◌<◌, ◌≤◌, Bool, false, List, [], ◌∷◌, length, map, min, refl, sym, ap, ◌∙◌, arith, add-one}
use Rattle.hera_meaning.specs.Deltas.{Delta, State, atoms, is_fail, apply_of}
use Rattle.when_overlay.specs.declared.layers.Layer.{Layer}
use Rattle.hera_frames.specs.declared.frames.Frame.{Frame}
use Rattle.hera_reads.specs.Branched.{Branches, pending_of, under, lowest}
use Rattle.hera_frames.specs.Items.{operands_at, reach}
use Rattle.hera_reads.specs.Walking.{walk_at, walks_reach}
use Rattle.hera_frames.specs.Waiting.{frame_at, NamesNone, AreKept, IsUpheld, frame_settled}
use Rattle.hera_reads.proofs.Branching.{pending_drop, pending_lower, under_lowest}
use Rattle.hera_frames.proofs.Settled.{items_held, items_are_held, walks_given, walks_are_given}
use Rattle.hera_frames.proofs.Upheld.{Agree, items_agree, walks_agree, frames_agree, agree_more, agree_lowest, agree_stored, frames_settled_at, needed}
use Rattle.hera_steps.specs.Working.{Work, machine_at, NameNone, NamesNothing}

abbrev pub branches_of : Work → Branches
branches_of w = record { catalogue = w.relations; layers = w.layers; tip = w.tip }

module _ (s : State) (w : Work) (floor : ℕ) (names : Bool) where
  abbrev pub Holds : Type 0
  Holds = IsUpheld (branches_of w) w.own floor w.operands w.walks names w.callers

  -- behind fewer layers it is the same machine of the code
  pub released : (c : Branches) → c ≡ record { catalogue = w.relations; layers = lowest (needed (branches_of w) w.own floor w.operands w.walks names w.callers) w.layers; tip = w.tip } → Holds →
      machine_at s (record w { layers = c.layers; tip = c.tip }) ≡ machine_at s w
  released c e u =
      let n : ℕ = needed (branches_of w) w.own floor w.operands w.walks names w.callers in
      let ms : List Layer = lowest n w.layers in
      let a : Agree s w.layers s ms (min n (length w.layers)) = agree_lowest s n w.layers in
      let tip : w.tip < length w.layers = u.tip in
      let operands : reach w.operands ≤ min n (length w.layers) = let h = u.operands in omega (arith, h) in
      let paces : walks_reach w.walks ≤ min n (length w.layers) = let h = u.paces in omega (arith, h) in
      let below : floor ≤ min n (length w.layers) = let h = u.below in omega (arith, h) in
      ap (λ (x : Branches). machine_at s (record w { layers = x.layers; tip = x.tip })) e
      ∙ (λ i. record {
        at = w.at;
        operands = sym (items_agree s w.layers s ms (min n (length w.layers)) a w.operands operands) i;
        locals = w.locals;
        walks = sym (walks_agree s w.layers s ms (min n (length w.layers)) a w.walks paces) i;
        layers = under_lowest n w.layers w.tip (omega arith) tip i;
        own = w.own;
        callers = sym (frames_agree s w.layers s ms (min n (length w.layers)) a floor names w.callers below u.callers) i;
        pending = pending_drop (length w.layers - n) w.layers (omega (arith, tip)) i;
        turns = w.turns;
      })

  -- a layer upon the one under which it reads
  pub entered : (c : Branches) (l : Layer) (d : Delta) → c.layers ≡ l ∷ w.layers → under c.layers c.tip ≡ d ∷ under w.layers w.tip → Holds →
      machine_at s (record w { layers = c.layers; tip = c.tip; own = w.own + 1 }) ≡ record (machine_at s w) { layers = d ∷ under w.layers w.tip; own = suc w.own }
  entered c l d e upon u =
      let a : Agree s w.layers s (l ∷ w.layers) (length w.layers) = agree_more s l w.layers in
      let tip : w.tip < length w.layers = u.tip in
      λ i. record {
        at = w.at;
        operands = (ap (λ ls. operands_at s ls w.operands) e ∙ sym (items_agree s w.layers s (l ∷ w.layers) (length w.layers) a w.operands u.operands)) i;
        locals = w.locals;
        walks = (ap (λ ls. map (walk_at s ls) w.walks) e ∙ sym (walks_agree s w.layers s (l ∷ w.layers) (length w.layers) a w.walks u.paces)) i;
        layers = upon i;
        own = add-one w.own i;
        callers = (ap (λ ls. map (frame_at s ls) w.callers) e ∙ sym (frames_agree s w.layers s (l ∷ w.layers) (length w.layers) a floor names w.callers u.below u.callers)) i;
        pending = (ap pending_of e ∙ pending_lower l w.layers (omega (arith, tip))) i;
        turns = w.turns;
      }

  -- a pending delta that is stored
  pub stored : (c : Branches) (d : Delta) → d ≡ pending_of w.layers → is_fail d ≡ false → pending_of c.layers ≡ atoms [] → ((k : ℕ) → under c.layers k ≡ under w.layers k) → c.tip ≡ w.tip → Holds →
      machine_at (apply_of s d) (record w { layers = c.layers; tip = c.tip }) ≡ record (machine_at s w) { pending = atoms [] }
  stored c d was known none same at u =
      let a : Agree s w.layers (apply_of s (pending_of w.layers)) c.layers (length w.layers) = agree_stored s w.layers c.layers (length w.layers) (ap is_fail (sym was) ∙ known) none same in
      ap (λ x. machine_at (apply_of s x) (record w { layers = c.layers; tip = c.tip })) was
      ∙ (λ i. record {
        at = w.at;
        operands = sym (items_agree s w.layers (apply_of s (pending_of w.layers)) c.layers (length w.layers) a w.operands u.operands) i;
        locals = w.locals;
        walks = sym (walks_agree s w.layers (apply_of s (pending_of w.layers)) c.layers (length w.layers) a w.walks u.paces) i;
        layers = (same c.tip ∙ ap (under w.layers) at) i;
        own = w.own;
        callers = sym (frames_agree s w.layers (apply_of s (pending_of w.layers)) c.layers (length w.layers) a floor names w.callers u.below u.callers) i;
        pending = none i;
        turns = w.turns;
      })

-- ---- another pending delta, where nothing names a relation

none_same : (s : State) (ls ms : List Layer) (fs : List Frame) → ((k : ℕ) → under ms k ≡ under ls k) → NameNone fs → map (frame_at s ms) fs ≡ map (frame_at s ls) fs
none_same s ls ms [] same none = refl
none_same s ls ms (f ∷ fs) same none =
    λ i. record {
      at = f.point.at;
      operands = items_held s s ls ms f.operands.items none.0.operands i;
      locals = f.locals;
      walks = walks_given s s ls ms f.walks none.0.walks i;
      layers = same f.point.tip i;
      own = f.point.own;
    } ∷ none_same s ls ms fs same none.1 i

pub repended : (s : State) (w : Work) (c : Branches) (d : Delta) → NamesNothing w → pending_of c.layers ≡ d → ((k : ℕ) → under c.layers k ≡ under w.layers k) → c.tip ≡ w.tip →
    machine_at s (record w { layers = c.layers; tip = c.tip }) ≡ record (machine_at s w) { pending = d }
repended s w c d none is same at = λ i. record {
  at = w.at;
  operands = items_held s s w.layers c.layers w.operands none.operands i;
  locals = w.locals;
  walks = walks_given s s w.layers c.layers w.walks none.walks i;
  layers = (same c.tip ∙ ap (under w.layers) at) i;
  own = w.own;
  callers = none_same s w.layers c.layers w.callers same none.callers i;
  pending = is i;
  turns = w.turns;
}

-- ---- frames that wait, with rows in the place of names

pub frames_settled_none : (s : State) (ls : List Layer) (fs : List Frame) → NameNone (map (frame_settled s ls) fs)
frames_settled_none s ls [] = tt
frames_settled_none s ls (f ∷ fs) =
    (record { operands = items_are_held s ls f.operands.items; walks = walks_are_given s ls f.walks; below = refl }, frames_settled_none s ls fs)

pub frames_settled_same : (s : State) (ls : List Layer) (fs : List Frame) → map (frame_at s ls) (map (frame_settled s ls) fs) ≡ map (frame_at s ls) fs
frames_settled_same s ls fs = frames_settled_at s s ls ls (λ k. refl) fs

-- of frames that are said to name nothing
pub kept_none : (ls : List Layer) (n : ℕ) (names : Bool) (fs : List Frame) → names ≡ false → AreKept ls n names fs → NameNone fs
kept_none ls n names [] e kept = tt
kept_none ls n names (f ∷ fs) e kept =
    let none : NamesNone f = kept.2 e in
    (none, kept_none ls f.point.floor f.point.names_below fs none.below kept.3)
