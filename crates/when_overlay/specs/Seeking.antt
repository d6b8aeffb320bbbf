-- What deltas say of one row, and the rows that they name.
use Rattle.std.specs.Prelude.{ℕ, Bool, true, false, cond, List, [], ◌∷◌, ◌++◌, Option, None, Some}
use Rattle.std.specs.List.{find}
use Rattle.std.specs.Option.{option_copied}
use Rattle.hera_sets.specs.Rows.{Row, holds, normal, is_past}
use Rattle.hera_meaning.specs.declared.scalars.Sign.{Sign}
use Rattle.hera_meaning.specs.declared.scalars.Sign.TheVariants.{Plus, Minus}
use Rattle.hera_meaning.specs.Deltas.{Delta, fail, atoms, rows_named, plus_atoms, minus_atoms}
use Rattle.delta_atoms.specs.Atoms.{part_of}
use Rattle.hera_rows.specs.Froms.{is_from}
use Rattle.when_overlay.specs.declared.soughts.Sought.{Sought}
use Rattle.when_overlay.specs.declared.soughts.Sought.TheVariants.{Past, From}

-- whether a delta takes the row out of relation r or puts it in, or says nothing of it
abbrev pub sign_in : ℕ → Delta → Row → Option Sign
sign_in r fail q = None
sign_in r (atoms xs) q = cond (holds (rows_named r (minus_atoms xs)) q) (Some Minus) (cond (holds (rows_named r (plus_atoms xs)) q) (Some Plus) None)

-- the later of two, where it says something
abbrev pub later : Option Sign → Option Sign → Option Sign
later None o = o
later (Some s) o = Some s

-- what the last delta that says something of the row says
abbrev pub sign_over : ℕ → List Delta → Row → Option Sign
sign_over r [] q = None
sign_over r (d ∷ ds) q = later (sign_over r ds q) (sign_in r d q)

-- whether the row is there, if it was there before or not
abbrev pub stands : Option Sign → Bool → Bool
stands None b = b
stands (Some Plus) b = true
stands (Some Minus) b = false

-- the rows of relation r that a delta names with this sign
abbrev pub named_in : ℕ → Sign → Delta → List Row
named_in r s fail = []
named_in r s (atoms xs) = part_of xs r s

-- the rows that one of the deltas names with this sign
abbrev pub named : ℕ → Sign → List Delta → List Row
named r s [] = []
named r s (d ∷ ds) = named_in r s d ++ named r s ds

-- the rows that a delta puts in
abbrev pub pluses : ℕ → List Delta → List Row
pluses r ds = named r Plus ds

-- the rows that were there, or that a delta puts in
abbrev pub met : ℕ → List Row → List Delta → List Row
met r rows ds = normal (rows ++ pluses r ds)

-- which rows are looked for: those past a row, or all, or those from a row on
abbrev pub passes : Sought → Row → Bool
passes (Past b) = is_past (option_copied b)
passes (From b) = is_from b.now

-- the least of the rows that pass
abbrev pub first_of : (Row → Bool) → List Row → Option Row
first_of p rows = find p (normal rows)

-- the least of the rows past the bound
abbrev pub next_of : Option Row → List Row → Option Row
next_of b rows = first_of (is_past b) rows
