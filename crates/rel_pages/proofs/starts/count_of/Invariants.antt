use Rattle.std.specs.Prelude.{◌≤◌, ◌-◌, length}
use Rattle.rel_pages.proofs.starts.count_of.Given as goal

abbrev pub invariant-loop-count : goal.invariant-loop-count
invariant-loop-count l = l.count ≤ length l.read

abbrev pub decreases-loop-count : goal.decreases-loop-count
decreases-loop-count l = length l.read - l.count
