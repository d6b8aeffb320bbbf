-- Calls of bodies, and the ways back.
use Rattle.std.specs.Prelude.{◌≡◌, ◌++◌, ℕ, List, [], ◌∷◌, map, drop, Option, None, Some}
use Rattle.hera_meaning.specs.Deltas.{State}
use Rattle.hera_meaning.specs.Values.{Value}
use Rattle.hera_meaning.specs.Worlds.{locals_from}
use Rattle.hera_flat.specs.declared.flat.Flat.{Flat}
use Rattle.hera_flat.specs.Flats.{flat_value}
use Rattle.hera_code.specs.declared.instrs.BodyInfo.{BodyInfo}
use Rattle.hera_code.specs.Machine.{taken}
use Rattle.when_overlay.specs.declared.layers.Layer.{Layer}
use Rattle.hera_frames.specs.declared.frames.Frame.{Frame}
use Rattle.hera_frames.specs.declared.frames.Point.{Point}
use Rattle.hera_frames.specs.Items.{Item, held, operands_at, IsHeld}
use Rattle.hera_reads.specs.Walking.{Pace}

-- the newest operand is there, and has its value
abbrev pub IsNewestHeld : List Item → Type 0
IsNewestHeld [] = ⊥
IsNewestHeld (item ∷ items) = IsHeld item

-- the values that an answer puts upon others, and the same as operands
abbrev pub answer_values : Option Flat → List Value
answer_values None = []
answer_values (Some v) = flat_value v ∷ []

abbrev pub answered : Option Flat → List Item
answered answer = map held (answer_values answer)

-- the slots of a body begin with the newest operands as its arguments, and the other operands are left
pub record IsBegun (params slots : ℕ) (old new : List Item) (locals : List Value) : Type 0 where
  pub args : List Value
  pub arguments : (s : State) (ls : List Layer) → taken params [] (operands_at s ls old) ≡ Some (record { args = args; rest = operands_at s ls new })
  pub slots_are : locals ≡ locals_from slots args
  pub rest : new ≡ drop params old

-- a body was called: a frame waits from then on at a point, with these operands, but for the arguments, and
-- these slots and walks
pub record IsCalled (body : BodyInfo) (p : Point) (items : List Item) (locals : List Value) (walks : List Pace) (slots : List Value) (old new : List Frame) : Type 0 where
  pub frame : Frame
  pub waits : new ≡ frame ∷ old
  pub point : frame.point ≡ p
  pub locals_are : frame.locals ≡ locals
  pub walks_are : frame.walks ≡ walks
  pub begun : IsBegun body.params body.slots items frame.operands.items slots

-- the newest frame that waited goes on from a point, with its operands, and more upon them, and its slots and
-- walks
pub record IsResumed (more : List Item) (p : Point) (items : List Item) (locals : List Value) (walks : List Pace) (old new : List Frame) : Type 0 where
  pub frame : Frame
  pub waited : old ≡ frame ∷ new
  pub point : frame.point ≡ p
  pub items_are : items ≡ more ++ frame.operands.items
  pub locals_are : locals ≡ frame.locals
  pub walks_are : walks ≡ frame.walks
