-- Values in little place, and slots.
use Rattle.std.specs.Prelude.{ℕ, ℤ, pos, Bool, true, false, List, Option, None, Some, option_and_then, slice_get}
use Rattle.hera_meaning.specs.declared.scalars.Scalar.{Scalar}
use Rattle.hera_meaning.specs.declared.scalars.Scalar.TheVariants.{Int as int_scalar, Bool as bool_scalar, Text as text_scalar}
use Rattle.hera_meaning.specs.Values.{Value, scalar, tuple, table, delta, int_value}
use Rattle.hera_flat.specs.declared.flat.Flat.{Flat}
use Rattle.hera_flat.specs.declared.flat.Flat.TheVariants as flats
use Rattle.hera_values.specs.declared.values.Shared.{Shared}
use Rattle.hera_values.specs.declared.values.Shared.TheVariants as shared
use Rattle.hera_values.specs.declared.values.Datum.{Datum}
use Rattle.hera_values.specs.declared.values.Datum.TheVariants.{Int, Bool as Truth, Tuple, Large}

abbrev pub shared_value : Shared → Value
shared_value (shared.Text text) = scalar (text_scalar text)
shared_value (shared.Rel rows) = table rows
shared_value (shared.Delta d) = delta d

abbrev pub plain_of : Datum → Value
plain_of (Int n) = scalar (int_scalar n)
plain_of (Truth b) = scalar (bool_scalar b)
plain_of (Tuple row) = tuple row.value.items
plain_of (Large v) = shared_value v.value

-- ints and bools, which take no memory
abbrev pub is_small_scalar : Scalar → Bool
is_small_scalar (int_scalar n) = true
is_small_scalar (bool_scalar b) = true
is_small_scalar (text_scalar t) = false

abbrev pub is_small : Value → Bool
is_small (scalar s) = is_small_scalar s
is_small (tuple r) = false
is_small (table rows) = false
is_small (delta d) = false

-- the value in a slot, where one is there
abbrev pub slot_in : Option Value → Value
slot_in None = int_value (pos 0)
slot_in (Some v) = v

-- the int or the bool that a value is, and the int; the same of the value in a slot
abbrev pub flat_of : Value → Option Flat
flat_of (scalar (int_scalar n)) = Some (flats.Int n)
flat_of (scalar (bool_scalar b)) = Some (flats.Bool b)
flat_of v = None

abbrev pub int_of : Value → Option ℤ
int_of (scalar (int_scalar n)) = Some n
int_of v = None

abbrev pub flat_at : List Value → ℕ → Option Flat
flat_at slots i = option_and_then flat_of (slice_get slots i)

abbrev pub int_at : List Value → ℕ → Option ℤ
int_at slots i = option_and_then int_of (slice_get slots i)
