use Rattle.std.proofs.Common.{◌≡◌, map, take, true}
use Rattle.std.specs.List.{list_all}
use Rattle.hera_sets.specs.Rows.{normal}
use Rattle.hera_meaning.specs.Aggregates.{group_row, rows_of_key}
use Rattle.hera_aggregate.specs.Groups.{are_aggs_in_range}
use Rattle.hera_aggregate.proofs.groups.group_parts.Given as goal

-- the rows of the groups done, and that their sums are in range
abbrev pub invariant-loop-place : goal.invariant-loop-place
invariant-loop-place g l =
    let rows = g.A.Sorted.rows l.a in
    record {
      groups : l.groups ≡ normal (map (group_row l.schema l.by l.aggs rows) (take l.place l.keys));
      fits : list_all (λ key. are_aggs_in_range l.schema (rows_of_key l.schema l.by key rows) l.aggs) (take l.place l.keys) ≡ true;
    }
