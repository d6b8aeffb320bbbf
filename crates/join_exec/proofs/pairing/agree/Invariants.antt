use Rattle.std.proofs.Common.{◌≡◌, drop}
use Rattle.hera_meaning.specs.Relations.{agree}
use Rattle.join_exec.proofs.PairLemmas.{agree_on}
use Rattle.join_exec.proofs.pairing.agree.Given as goal

-- what the attributes to come answer is the answer
abbrev pub invariant-loop-place : goal.invariant-loop-place
invariant-loop-place l = agree_on l.left l.right l.row l.other (drop l.place l.right) ≡ agree l.left l.right (l.row, l.other)
