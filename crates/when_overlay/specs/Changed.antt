-- States, and the rows of one relation, after deltas.
use Rattle.std.specs.Prelude.{ℕ, List, [], ◌∷◌}
use Rattle.hera_sets.specs.Rows.{Row}
use Rattle.hera_meaning.specs.Deltas.{Delta, fail, atoms, State, apply_to, apply_of}

-- the state after deltas, the first of which stands first
abbrev pub after_all : State → List Delta → State
after_all s [] = s
after_all s (d ∷ ds) = after_all (apply_of s d) ds

-- the rows of relation r after a delta; `fail` changes nothing
abbrev pub changed : ℕ → List Row → Delta → List Row
changed r rows fail = rows
changed r rows (atoms xs) = apply_to r rows xs

-- the rows of relation r after deltas, the first of which stands first
abbrev pub rows_after : ℕ → List Row → List Delta → List Row
rows_after r rows [] = rows
rows_after r rows (d ∷ ds) = rows_after r (changed r rows d) ds
