use Rattle.std.proofs.Common.{◌≡◌, ◌++◌, drop}
use Rattle.join_exec.specs.Leading.{places_in}
use Rattle.join_exec.proofs.pairing.places_of.Given as goal

-- the places found, and those to come
abbrev pub invariant-loop-place : goal.invariant-loop-place
invariant-loop-place l = l.places.items ++ places_in l.left (drop l.place l.right) ≡ places_in l.left l.right
