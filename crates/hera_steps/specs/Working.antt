-- A machine at work, and the machine of the code for which it stands over a committed state.
use Rattle.std.specs.Prelude.{ℕ, List, [], ◌∷◌, map}
use Rattle.hera_meaning.specs.declared.schemas.RelDecl.{RelDecl}
use Rattle.hera_meaning.specs.Deltas.{State}
use Rattle.hera_meaning.specs.Values.{Value}
use Rattle.hera_code.specs.Machine.{Machine}
use Rattle.when_overlay.specs.declared.layers.Layer.{Layer}
use Rattle.hera_frames.specs.declared.frames.Frame.{Frame}
use Rattle.hera_reads.specs.Branched.{pending_of, under}
use Rattle.hera_frames.specs.Items.{Item, operands_at, AreHeld}
use Rattle.hera_reads.specs.Walking.{Pace, walk_at, AreGiven}
use Rattle.hera_frames.specs.Waiting.{frame_at, NamesNone}

-- as the machine of the code, but operands and walks may name a relation as it is under a layer; all layers,
-- and the number of the one under which the running frame reads; and how many further operands have their
-- place; relations are those that the layers may name
pub record Work : Type 0 where
  pub at : ℕ
  pub operands : List Item
  pub spare : ℕ
  pub locals : List Value
  pub walks : List Pace
  pub relations : List RelDecl
  pub layers : List Layer
  pub tip : ℕ
  pub own : ℕ
  pub callers : List Frame
  pub turns : ℕ

abbrev pub machine_at : State → Work → Machine
machine_at s w = record {
  at = w.at;
  operands = operands_at s w.layers w.operands;
  locals = w.locals;
  walks = map (walk_at s w.layers) w.walks;
  layers = under w.layers w.tip;
  own = w.own;
  callers = map (frame_at s w.layers) w.callers;
  pending = pending_of w.layers;
  turns = w.turns;
}

-- no frame that waits names a relation
abbrev pub NameNone : List Frame → Type 0
NameNone [] = Unit {0}
NameNone (f ∷ fs) = NamesNone f × NameNone fs

-- nothing names a relation
pub record NamesNothing (w : Work) : Type 0 where
  pub operands : AreHeld w.operands
  pub walks : AreGiven w.walks
  pub callers : NameNone w.callers
