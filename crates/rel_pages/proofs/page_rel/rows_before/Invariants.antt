use Rattle.std.specs.Prelude.{◌≡◌, ◌≤◌, ◌-◌, None}
use Rattle.std.specs.List.{find}
use Rattle.rel_pages.specs.Rels.{rows_from, passes}
use Rattle.rel_pages.proofs.page_rel.rows_before.Given as goal

abbrev pub invariant-loop-high : goal.invariant-loop-high
invariant-loop-high l = record {
  order : l.low ≤ l.high;
  within : l.high ≤ l.count;
  none : find (passes l.bound) (rows_from l.schema l.low l.bytes) ≡ None;
}

abbrev pub decreases-loop-high : goal.decreases-loop-high
decreases-loop-high l = l.high - l.low
