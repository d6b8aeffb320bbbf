-- The values of the machine as the plain values of the language.
use Rattle.hera_sets.specs.Rows.{IsAscending}
use Rattle.hera_meaning.specs.Deltas.{IsDelta}
use Rattle.hera_meaning.specs.Values.{Value as Plain, scalar, tuple, table, delta}
use Rattle.delta_atoms.specs.declared.value.Value.{Value}
use Rattle.delta_atoms.specs.declared.value.Value.TheVariants.{Scalar, Row, Rel, Delta}

abbrev pub value_of : Value → Plain
value_of (Scalar s) = scalar s
value_of (Row r) = tuple r
value_of (Rel rows) = table rows
value_of (Delta d) = delta d

-- the rows of a relation ascend, and the atoms of a delta
abbrev pub IsInOrder : Plain → Type 0
IsInOrder (scalar s) = Unit {0}
IsInOrder (tuple r) = Unit {0}
IsInOrder (table rows) = IsAscending rows
IsInOrder (delta d) = IsDelta d
