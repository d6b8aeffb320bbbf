use Rattle.std.specs.Prelude.{◌≡◌, ◌≤◌, ◌-◌, false, length, IfSome}
use Rattle.rel_pages.specs.Rels.{passes}
use Rattle.rel_pages.specs.Starts.{IsStart, start_row}
use Rattle.rel_pages.proofs.indexed.kept_by_search.Given as goal

abbrev pub invariant-loop-low : goal.invariant-loop-low
invariant-loop-low l = record {
  order : l.low ≤ l.high;
  within : l.high ≤ length l.starts;
  start : IfSome l.found (λ kept. IsStart l.schema l.page l.pages kept.start);
  before : IfSome l.found (λ kept. passes l.bound (start_row l.schema l.page l.pages kept.start) ≡ false);
}

abbrev pub decreases-loop-low : goal.decreases-loop-low
decreases-loop-low l = l.high - l.low
