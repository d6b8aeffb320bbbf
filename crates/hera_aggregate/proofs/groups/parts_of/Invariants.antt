use Rattle.std.proofs.Common.{◌≡◌, List, ℕ, ◌++◌, length, map}
use Rattle.std.specs.List.{filter}
use Rattle.std.specs.Option.{option_copied}
use Rattle.hera_sets.specs.Rows.{is_past}
use Rattle.hera_meaning.specs.Aggregates.{rows_of_key}
use Rattle.hera_aggregate.proofs.groups.parts_of.Given as goal

-- the rows done, parted
abbrev pub invariant-loop-row : goal.invariant-loop-row
invariant-loop-row g l = (done : List (List ℕ)) × (done ++ filter (is_past (option_copied l.last)) (g.A.Sorted.rows l.a) ≡ g.A.Sorted.rows l.a) × (l.parts.items ≡ map (λ key. rows_of_key l.schema l.by key done) l.keys)

abbrev pub decreases-loop-row : goal.decreases-loop-row
decreases-loop-row g l = length (filter (is_past (option_copied l.last)) (g.A.Sorted.rows l.a))
