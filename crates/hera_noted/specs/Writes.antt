-- Which instructions write slots first, and the ranges behind them.
use Rattle.std.specs.Prelude.{◌≡◌, ◌≤◌, ℕ, List, Option, None, Some, length, slice_get}
use Rattle.hera_code.specs.declared.instrs.Instr.{Instr}
use Rattle.hera_code.specs.declared.instrs.BodyInfo.{BodyInfo}
use Rattle.hera_code.specs.declared.instrs.Code.{Code}
use Rattle.hera_noted.specs.declared.extents.Span.{Span}
use Rattle.hera_noted.specs.Spans.{end_of, IsUnwritten, IsFirstWrite, IsRange}

module _ (is : List Instr) (lo hi : ℕ) where
  -- the first address that writes the slot, if one below address a does
  abbrev pub IsWrite : (a i : ℕ) → Option ℕ → Type 0
  IsWrite a i None = IsUnwritten is lo hi a i
  IsWrite a i (Some w) = IsFirstWrite is lo hi i w

  -- those of each slot
  abbrev pub AreWrites : (a : ℕ) → List (Option ℕ) → Type 0
  AreWrites a writes = (i : ℕ) (o : Option ℕ) → slice_get writes i ≡ Some o → IsWrite a i o

-- the range of slot i of body k
pub record IsRangeIn (code : Code) (k i : ℕ) (r : Span) : Type 0 where
  pub range : (info : BodyInfo) → slice_get code.bodies k ≡ Some info → IsRange code.instrs info.at (end_of code k) i r.start r.end
  pub within : (r.start ≤ length code.instrs) × (r.end ≤ length code.instrs)
