-- How many rows relations have.
use Rattle.std.specs.Prelude.{◌≡◌, ◌<◌, ◌^◌, ℕ, List, Option, Some, length, slice_get}
use Rattle.hera_meaning.specs.Deltas.{State, rows_at}

-- relation r has n rows in the state
abbrev pub IsCount : State → ℕ → ℕ → Type 0
IsCount s r n = (n ≡ length (rows_at s r)) × (n < 2 ^ 63)

-- each number that is known, by its relation, is how many rows that has in the state
abbrev pub AreCounts : State → List (Option ℕ) → Type 0
AreCounts s ns = (r n : ℕ) → slice_get ns r ≡ Some (Some n) → IsCount s r n
