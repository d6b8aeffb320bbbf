-- Rows from a bound on, or past it.
use Rattle.std.specs.Prelude.{◌≡◌, ℕ, zero, suc, Bool, true, false, not, List, Some, slice_get}
use Rattle.hera_sets.specs.Rows.{Row, is_below}
use Rattle.hera_rows.specs.declared.bounds.Bound.{Bound}
use Rattle.hera_rows.specs.declared.bounds.Bound.TheVariants.{Past, From}

-- r does not stand before the bound
abbrev pub is_from : Row → Row → Bool
is_from bound r = not (is_below r bound)

abbrev pub low_of : Bound → Row
low_of (Past b) = b.now
low_of (From b) = b.now

-- the row is one of those that are looked for
abbrev pub passes : Bound → Row → Bool
passes (Past b) r = is_below b.now r
passes (From b) r = is_from b.now r

-- there are so many rows, and the last of them does not pass
abbrev pub EndsOut : (Row → Bool) → List Row → ℕ → Type 0
EndsOut p rows zero = Unit {0}
EndsOut p rows (suc n) = (r : Row) × (slice_get rows n ≡ Some r) × (p r ≡ false)

-- the row behind so many passes, if there is one
abbrev pub StartsIn : (Row → Bool) → List Row → ℕ → Type 0
StartsIn p rows n = (r : Row) → slice_get rows n ≡ Some r → p r ≡ true
