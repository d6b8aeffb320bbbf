use Rattle.std.proofs.Common.{◌≡◌, ◌++◌, drop}
use Rattle.hera_meaning.specs.Relations.{joined}
use Rattle.join_exec.proofs.PairLemmas.{rest_at}
use Rattle.join_exec.proofs.pairing.joined.Given as goal

-- the fields taken, and those to come
abbrev pub invariant-loop-place : goal.invariant-loop-place
invariant-loop-place l = l.both.items ++ rest_at l.left l.right l.other (drop l.place l.right) ≡ joined l.left l.right (l.row, l.other)
