use Rattle.std.proofs.Common.{◌≡◌, drop, true}
use Rattle.hera_sets.specs.Rows.{holds}
use Rattle.hera_aggregate.proofs.groups.place_of.Given as goal

-- the key is one of those to come
abbrev pub invariant-loop-place : goal.invariant-loop-place
invariant-loop-place l = holds (drop l.place l.keys) l.key ≡ true
