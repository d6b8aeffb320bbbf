use Rattle.std.proofs.Common.{◌≡◌, [], map, take}
use Rattle.hera_aggregate.proofs.groups.no_parts.Given as goal

-- no rows for each key so far
abbrev pub invariant-loop-place : goal.invariant-loop-place
invariant-loop-place l = l.parts.items ≡ map (λ key. []) (take l.place l.keys)
