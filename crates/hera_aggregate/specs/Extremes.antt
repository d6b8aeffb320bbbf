-- The best scalar so far, and when there is none.
use Rattle.std.specs.Prelude.{cond, List, [], ◌∷◌, Option, None, Some, ◌≡◌, pos}
use Rattle.hera_sets.specs.Rows.{Row}
use Rattle.hera_meaning.specs.declared.scalars.Scalar.{Scalar}
use Rattle.hera_meaning.specs.declared.scalars.Scalar.TheVariants.{Int as int_scalar}
use Rattle.hera_meaning.specs.Scalars.{scalar_less}
use Rattle.hera_meaning.specs.Aggregates.{least_from, greatest_from}
use Rattle.hera_aggregate.specs.declared.ends.AggEnd.{AggEnd}
use Rattle.hera_aggregate.specs.declared.ends.AggEnd.TheVariants.{Overflow, EmptyMin, Memory}

-- the lesser of the best so far and one more
abbrev pub with_lesser : Option Scalar → Scalar → Scalar
with_lesser None t = t
with_lesser (Some s) t = cond (scalar_less t s) t s

-- the greater of the best so far and one more
abbrev pub with_greater : Option Scalar → Scalar → Scalar
with_greater None t = t
with_greater (Some s) t = cond (scalar_less s t) t s

-- the least, where there is one
abbrev pub found_least : List Scalar → Option Scalar
found_least [] = None
found_least (s ∷ rest) = Some (least_from s rest)

-- the greatest, where there is one
abbrev pub found_greatest : List Scalar → Option Scalar
found_greatest [] = None
found_greatest (s ∷ rest) = Some (greatest_from s rest)

-- the one found, and the int 0 where there is none
abbrev pub found_or_zero : Option Scalar → Scalar
found_or_zero None = int_scalar (pos 0)
found_or_zero (Some s) = s

-- there is a row
abbrev pub HasRows : List Row → Type 0
HasRows [] = ⊥
HasRows (x ∷ rows) = Unit {0}

-- a least or a greatest is refused for no rows, and for want of memory where there are rows
abbrev pub IsExtremeEnd : List Row → AggEnd → Type 0
IsExtremeEnd rows Overflow = ⊥
IsExtremeEnd rows EmptyMin = rows ≡ []
IsExtremeEnd rows Memory = HasRows rows
