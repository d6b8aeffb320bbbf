-- Ints and bools as values, and the operations that give them.
use Rattle.std.specs.Prelude.{◌≡◌, true, cond, List, length, Option, None, Some}
use Rattle.hera_meaning.specs.declared.scalars.Scalar.TheVariants.{Int as int_scalar, Bool as bool_scalar}
use Rattle.hera_meaning.specs.declared.trees.Op.{Op}
use Rattle.hera_meaning.specs.Values.{Value, scalar, int_value, bool_value}
use Rattle.hera_meaning.specs.Fits.{arity, fits_of}
use Rattle.hera_meaning.specs.Primitives.{Answer, gives, given}
use Rattle.hera_flat.specs.declared.flat.Flat.{Flat}
use Rattle.hera_flat.specs.declared.flat.Flat.TheVariants.{Int, Bool as bool_flat}

abbrev pub flat_value : Flat → Value
flat_value (Int v) = int_value v
flat_value (bool_flat b) = bool_value b

-- the int or the bool that is given, if one is
abbrev pub flat_in : Answer → Option Flat
flat_in (gives (scalar (int_scalar v))) = Some (Int v)
flat_in (gives (scalar (bool_scalar b))) = Some (bool_flat b)
flat_in _ = None

-- the int or the bool that the operation gives of operands that fit
abbrev pub flat_answer : Op → List Value → Option Flat
flat_answer op vs = cond (fits_of op vs) (flat_in (given op vs)) None

-- the operation takes these operands, they fit, and it gives this
abbrev pub IsGiven : Op → List Value → Flat → Type 0
IsGiven op vs v = (arity op ≡ length vs) × (fits_of op vs ≡ true) × (given op vs ≡ gives (flat_value v))
