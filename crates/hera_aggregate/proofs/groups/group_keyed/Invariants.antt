use Rattle.std.proofs.Common.{◌≡◌, List, ℕ, ◌++◌, length, map, true}
use Rattle.std.specs.List.{filter, list_all}
use Rattle.std.specs.Option.{option_copied}
use Rattle.hera_sets.specs.Rows.{is_past, normal}
use Rattle.hera_meaning.specs.Relations.{project_of}
use Rattle.hera_meaning.specs.Aggregates.{group_row, rows_of_key}
use Rattle.hera_aggregate.specs.Groups.{are_aggs_in_range}
use Rattle.hera_aggregate.proofs.groups.group_keyed.Given as goal

-- the keys done, their rows of the group, and that their sums are in range
abbrev pub invariant-loop-key : goal.invariant-loop-key
invariant-loop-key g l =
    let rows = g.A.Sorted.rows l.a in
    (done : List (List ℕ)) × (done ++ filter (is_past (option_copied l.last)) (project_of l.schema l.by rows) ≡ project_of l.schema l.by rows) × (l.groups ≡ normal (map (group_row l.schema l.by l.aggs rows) done))
    × (list_all (λ key. are_aggs_in_range l.schema (rows_of_key l.schema l.by key rows) l.aggs) done ≡ true)

abbrev pub decreases-loop-key : goal.decreases-loop-key
decreases-loop-key g l = length (filter (is_past (option_copied l.last)) (project_of l.schema l.by (g.A.Sorted.rows l.a)))
