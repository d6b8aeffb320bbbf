-- the places before the low one are above the limit, those from the high one on are not
use Rattle.std.proofs.Common.{◌≡◌, ◌<◌, ◌≤◌, ◌-◌, ℕ, length, Some}
use Rattle.std.specs.Prelude.{slice_get}
use Rattle.hera_noted.proofs.ends.count_above.Given as goal

abbrev pub invariant-loop-low : goal.invariant-loop-low
invariant-loop-low l = record {
  order : l.low ≤ l.high;
  within : l.high ≤ length l.places;
  above : (i p : ℕ) → slice_get l.places i ≡ Some p → i < l.low → l.limit < p;
  rest : (i p : ℕ) → slice_get l.places i ≡ Some p → l.high ≤ i → p ≤ l.limit;
}

abbrev pub decreases-loop-low : goal.decreases-loop-low
decreases-loop-low l = l.high - l.low
