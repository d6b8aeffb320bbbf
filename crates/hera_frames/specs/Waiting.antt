-- Frames that wait, with the layers under which they read.
use Rattle.std.specs.Prelude.{◌≡◌, ◌<◌, ◌≤◌, ℕ, Bool, false, List, [], ◌∷◌, length, map}
use Rattle.hera_meaning.specs.Deltas.{State}
use Rattle.hera_code.specs.Machine as machine
use Rattle.when_overlay.specs.declared.layers.Layer.{Layer}
use Rattle.hera_frames.specs.declared.frames.Frame.{Frame}
use Rattle.hera_reads.specs.Branched.{Branches, under}
use Rattle.hera_frames.specs.Items.{Item, operands_at, collected, AreHeld, reach}
use Rattle.hera_reads.specs.Walking.{Pace, walk_at, settled, AreGiven, walks_reach}

-- a frame that waits, over the committed state and under the layers
abbrev pub frame_at : State → List Layer → Frame → machine.Frame
frame_at s ls f = record {
  at = f.point.at;
  operands = operands_at s ls f.operands.items;
  locals = f.locals;
  walks = map (walk_at s ls) f.walks;
  layers = under ls f.point.tip;
  own = f.point.own;
}

-- the layers that a frame names are among the oldest ones, so many
pub record IsWithin (n : ℕ) (f : Frame) : Type 0 where
  pub tip : f.point.tip < n
  pub operands : reach f.operands.items ≤ n
  pub walks : walks_reach f.walks ≤ n
  pub floor : f.point.floor ≤ n

-- the frame names no relation, nor do those below
pub record NamesNone (f : Frame) : Type 0 where
  pub operands : AreHeld f.operands.items
  pub walks : AreGiven f.walks
  pub below : f.point.names_below ≡ false

-- Of frames that wait: each one names layers below the floor of the one that it has called (the first one
-- those below the floor at hand), and is upon as many layers as it calls its own. Where no frame that waits
-- is said to name a relation, none does.
abbrev pub AreKept : List Layer → ℕ → Bool → List Frame → Type 0
AreKept ls floor names [] = Unit {0}
AreKept ls floor names (f ∷ fs) =
    (f.point.own ≤ length (under ls f.point.tip)) × IsWithin floor f × (names ≡ false → NamesNone f) × AreKept ls f.point.floor f.point.names_below fs

-- Of the running frame and those that wait: it is upon as many layers as it calls its own, what it names is
-- there, and so are the layers below its floor, among which are all that frames that wait name.
pub record IsUpheld (c : Branches) (own floor : ℕ) (items : List Item) (walks : List Pace) (names : Bool) (fs : List Frame) : Type 0 where
  pub tip : c.tip < length c.layers
  pub owned : own ≤ length (under c.layers c.tip)
  pub operands : reach items ≤ length c.layers
  pub paces : walks_reach walks ≤ length c.layers
  pub below : floor ≤ length c.layers
  pub callers : AreKept c.layers floor names fs

-- the frame with rows in the place of names
abbrev pub frame_settled : State → List Layer → Frame → Frame
frame_settled s ls f = record {
  point = record f.point { names_below = false };
  operands = record { items = map (collected s ls) f.operands.items; spare = f.operands.spare };
  locals = f.locals;
  walks = map (settled s ls) f.walks;
}

-- a stack that was emptied onto another one
abbrev pub poured : {A : Type 0} → List A → List A → List A
poured [] ys = ys
poured (x ∷ xs) ys = poured xs (x ∷ ys)
