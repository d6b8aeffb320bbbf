use Rattle.std.proofs.Common.{◌≡◌, ◌<◌, ◌^◌, List, ℕ, ◌++◌, length, map}
use Rattle.std.specs.List.{filter}
use Rattle.std.specs.Option.{option_copied}
use Rattle.hera_sets.specs.Rows.{is_past, normal}
use Rattle.hera_meaning.specs.Relations.{at_places}
use Rattle.hera_aggregate.proofs.groups.keys_of.Given as goal

-- the keys of the rows done, and how many they are
abbrev pub invariant-loop-row : goal.invariant-loop-row
invariant-loop-row g l =
    (done : List (List ℕ)) × (done ++ filter (is_past (option_copied l.last)) (g.A.Sorted.rows l.a) ≡ g.A.Sorted.rows l.a) × (l.keys ≡ normal (map (at_places l.schema l.by) done))
    × record { counted : l.n ≡ length done; fits : l.n < 2 ^ 63 }

abbrev pub decreases-loop-row : goal.decreases-loop-row
decreases-loop-row g l = length (filter (is_past (option_copied l.last)) (g.A.Sorted.rows l.a))
