-- Steps that take no memory.
use Rattle.std.specs.Prelude.{ℕ, Bool, true, false, not, nat_lt, Option, Some}
use Rattle.hera_code.specs.declared.instrs.Instr.{Instr}
use Rattle.hera_code.specs.declared.instrs.Instr.TheVariants.{Rel, Prim, Leave}
use Rattle.hera_fits.specs.Tables.{takes_memory}

-- Leave; a Prim of Count, Empty or In; and Rel where there is the place for one more operand
abbrev pub is_sparing : ℕ → Option Instr → Bool
is_sparing spare (Some Leave) = true
is_sparing spare (Some (Prim op at)) = not (takes_memory op)
is_sparing spare (Some (Rel r)) = nat_lt 0 spare
is_sparing spare _ = false
