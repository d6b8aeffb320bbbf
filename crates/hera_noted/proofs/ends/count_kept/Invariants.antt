-- no way leads from before to the last n
use Rattle.std.proofs.Common.{◌≡◌, ◌≤◌, ◌-◌, ℕ, length, Some}
use Rattle.std.specs.Prelude.{slice_get}
use Rattle.hera_noted.specs.declared.ends.Gate.{Gate}
use Rattle.hera_noted.proofs.ends.count_kept.Given as goal

abbrev pub invariant-loop-n : goal.invariant-loop-n
invariant-loop-n l = (l.n ≤ length l.gates) × ((i : ℕ) (g : Gate) → slice_get l.gates i ≡ Some g → length l.gates - l.n ≤ i → l.from ≤ g.first)
