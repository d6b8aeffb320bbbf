use Rattle.std.proofs.Common.{◌≡◌, ◌++◌, drop}
use Rattle.join_exec.specs.Leading.{shared_of}
use Rattle.join_exec.proofs.PairLemmas.{shared_at}
use Rattle.join_exec.proofs.pairing.shared.Given as goal

-- the fields taken, and those to come
abbrev pub invariant-loop-place : goal.invariant-loop-place
invariant-loop-place l = l.key.items ++ shared_at l.left l.schema l.row (drop l.place l.right) ≡ shared_of l.left l.right l.schema l.row
