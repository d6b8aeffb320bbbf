-- What an operation answered.
use Rattle.std.specs.Prelude.{◌≡◌, true, cond, ℤ, pos, Result, Ok, Err}
use Rattle.std.specs.Ordering.{int_eq}
use Rattle.hera_meaning.specs.declared.trees.Op.{Op}
use Rattle.hera_meaning.specs.declared.trees.TrapName.{TrapName}
use Rattle.hera_meaning.specs.declared.trees.TrapName.TheVariants.{DivZero, Overflow}
use Rattle.hera_meaning.specs.Primitives.{Answer, gives, refuses}
use Rattle.delta_atoms.specs.declared.value.Value.{Value}
use Rattle.delta_atoms.specs.Plain.{value_of}
use Rattle.hera_prims.specs.declared.end.PrimEnd.{PrimEnd}
use Rattle.hera_prims.specs.declared.end.PrimEnd.TheVariants.{Trap, Memory}
use Rattle.hera_fits.specs.Tables.{takes_memory}

-- the value or the trap; of want of memory nothing is said
abbrev pub IsAnswer : Result Value PrimEnd → Answer → Type 0
IsAnswer (Ok v) a = a ≡ gives (value_of v)
IsAnswer (Err (Trap name)) a = a ≡ refuses name
IsAnswer (Err Memory) a = Unit {0}

-- want of memory is answered for operations that take memory alone
abbrev pub IsSparing : Op → Result Value PrimEnd → Type 0
IsSparing op (Ok v) = Unit {0}
IsSparing op (Err (Trap name)) = Unit {0}
IsSparing op (Err Memory) = takes_memory op ≡ true

-- why nothing is given of a division by an int, where nothing is
abbrev pub division_trap : ℤ → TrapName
division_trap by = cond (int_eq by (pos 0)) DivZero Overflow
