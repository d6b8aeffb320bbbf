-- the last n places are done
use Rattle.std.proofs.Common.{◌≡◌, ◌≤◌, ◌+◌, ◌-◌, ℕ, length, Some}
use Rattle.std.specs.Prelude.{slice_get}
use Rattle.hera_noted.specs.Ends.{IsFarthestIn, AreStops, AreGates}
use Rattle.hera_noted.proofs.ends.farthest_ends.Given as goal

abbrev pub invariant-loop-n : goal.invariant-loop-n
invariant-loop-n l = record {
  few : l.n ≤ length l.all;
  stops : AreStops l.all (length l.all - l.n) l.stops.items;
  gates : AreGates l.all (length l.all - l.n) l.gates.items;
  long : length l.ends.items ≡ l.n + 1;
  ends : (m e : ℕ) → slice_get l.ends.items m ≡ Some e → IsFarthestIn l.all (length l.all - m) e;
}
