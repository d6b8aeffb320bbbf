use Rattle.std.proofs.Common.{◌≡◌, ◌+◌, drop, length}
use Rattle.hera_meaning.specs.Relations.{lacking}
use Rattle.hera_fits.proofs.places.lacking_len.Given as goal

abbrev pub invariant-loop-i : goal.invariant-loop-i
invariant-loop-i l = l.count + length (lacking l.left (drop l.i l.right)) ≡ length (lacking l.left l.right)
