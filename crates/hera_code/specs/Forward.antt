-- Code that jumps forward.
use Rattle.std.specs.Prelude.{◌≡◌, ◌<◌, ℕ, Some, slice_get}
use Rattle.hera_code.specs.declared.instrs.Instr.{Instr}
use Rattle.hera_code.specs.declared.instrs.Instr.TheVariants.{Jump, Unless, Next}
use Rattle.hera_code.specs.declared.instrs.Code.{Code}

-- a Jump, Unless or Next at an address goes to a greater one
abbrev pub GoesForward : ℕ → Instr → Type 0
GoesForward a (Jump b) = a < b
GoesForward a (Unless b) = a < b
GoesForward a (Next i b) = a < b
GoesForward a _ = Unit {0}

abbrev pub Forward : Code → Type 0
Forward code = (a : ℕ) (i : Instr) → slice_get code.instrs a ≡ Some i → GoesForward a i
