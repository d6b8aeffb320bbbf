use Rattle.std.proofs.Common.{◌≡◌, ◌++◌, take}
use Rattle.std.specs.List.{flat_map}
use Rattle.hera_meaning.specs.Rows.{pieces}
use Rattle.hera_meaning.specs.Relations.{piece_at}
use Rattle.hera_aggregate.proofs.groups.put_places.Given as goal

-- the fields of the places done
abbrev pub invariant-loop-place : goal.invariant-loop-place
invariant-loop-place l = l.bytes.items ≡ l.initial.bytes.items ++ flat_map (λ i. piece_at (pieces l.schema l.row) i) (take l.place-index l.places)
