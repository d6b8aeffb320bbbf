use Rattle.std.proofs.Common.{◌≡◌, ◌++◌, drop}
use Rattle.join_exec.specs.Leading.{leading_of}
use Rattle.join_exec.proofs.pairing.leading.Given as goal

-- the fields taken, and those to come
abbrev pub invariant-loop-place : goal.invariant-loop-place
invariant-loop-place l = l.front.items ++ leading_of l.left l.row (drop l.place l.right) ≡ leading_of l.left l.row l.right
