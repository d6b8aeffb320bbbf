use Rattle.std.proofs.Common.{◌≡◌, ◌++◌, take, true}
use Rattle.rel_algebra.specs.Fronts.{rows_behind}
use Rattle.hera_aggregate.specs.Groups.{aggs_bytes, are_aggs_in_range}
use Rattle.hera_aggregate.proofs.groups.group_row.Given as goal

-- the aggregates done, and that their sums are in range
abbrev pub invariant-loop-agg : goal.invariant-loop-agg
invariant-loop-agg g l =
    let rows = rows_behind l.skip (g.A.Sorted.rows l.a) in
    record {
      bytes : l.row.items ≡ l.key ++ aggs_bytes l.schema rows (take l.agg-index l.aggs);
      fits : are_aggs_in_range l.schema rows (take l.agg-index l.aggs) ≡ true;
    }
