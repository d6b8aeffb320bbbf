-- Two instructions at once: an operand that is put up and an operation that takes it off again. And a third one, a jump
-- by what the operation gives. And an operation and a slot that takes what it gives.
use Rattle.std.specs.Prelude.{◌≡◌, ◌+◌, ℕ, Bool, true, false, Some, ◌∷◌, slice_get}
use Rattle.std.specs.Option.{is_some}
use Rattle.hera_meaning.specs.declared.trees.Op.{Op}
use Rattle.hera_meaning.specs.declared.trees.Op.TheVariants.{Smash, Merge}
use Rattle.hera_meaning.specs.Worlds.{set_local}
use Rattle.hera_meaning.specs.Values.{Value}
use Rattle.hera_meaning.specs.Fits.{arity}
use Rattle.hera_code.specs.declared.instrs.Code.{Code}
use Rattle.hera_code.specs.declared.instrs.Instr.TheVariants.{Prim, Store}
use Rattle.hera_code.specs.Machine.{Machine, Step, quiet, on_with, on_top, on_some, answers, needs_address, needs_slot, by_bool}
use Rattle.hera_frames.specs.Items.{are_deltas}
use Rattle.hera_steps.specs.Working.{Work}

-- the operation at the place, where the value stands upon the operands of a machine, an instruction behind it
abbrev pub with_value : ℕ → Op → Value → Machine → Step
with_value place op v m = on_some (arity op) (v ∷ m.operands) (λ args vs. answers place op args vs (on_with (v ∷ m.operands) m))

-- so many instructions further, with one more operand
abbrev pub ahead : ℕ → Value → Machine → Machine
ahead k v m = record m { at = m.at + k; operands = v ∷ m.operands }

-- behind a quiet instruction
abbrev pub behind : (Machine → Step) → Step → Step
behind f (quiet m) = f m
behind f t = t

-- a jump by the newest operand
abbrev pub parted_by : Code → ℕ → Machine → Step
parted_by code a m = on_top m.operands (λ v vs. needs_address code a (by_bool v (quiet (on_with vs m)) (quiet (record m { at = a; operands = vs }))))

-- the newest operand goes into the slot
abbrev pub stored_in : ℕ → Machine → Step
stored_in i m = on_top m.operands (λ v vs. needs_slot i m (quiet (record m { at = m.at + 1; operands = vs; locals = set_local m.locals i v })))

-- the operation joins two deltas
abbrev pub joins : Op → Bool
joins Smash = true
joins Merge = true
joins _ = false

-- the instruction at hand joins the two newest operands, which are deltas, and the next one stores what it gives in a
-- slot that is there
pub record IsJoinAt (code : Code) (w : Work) (op : Op) (at i : ℕ) : Type 0 where
  pub here : slice_get code.instrs w.at ≡ Some (Prim op at)
  pub next : slice_get code.instrs (w.at + 1) ≡ Some (Store i)
  pub joins : joins op ≡ true
  pub deltas : are_deltas w.operands ≡ true
  pub there : is_some (slice_get w.locals i) ≡ true
