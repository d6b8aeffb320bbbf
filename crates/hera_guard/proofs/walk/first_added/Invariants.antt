use Rattle.std.proofs.Common.{◌≡◌, drop}
use Rattle.hera_host.specs.Tables.{specs_of}
use Rattle.hera_guard.specs.Guards.{breaks_from, breaks, first, added_of}
use Rattle.hera_guard.proofs.walk.first_added.Given as goal

-- the first break of the relations that are left is that of all
abbrev pub invariant-loop-number : goal.invariant-loop-number
invariant-loop-number g l =
    let added = added_of l.catalogue l.delta in
    first (breaks_from (specs_of l.hosts.names) l.guards l.number (drop l.number l.catalogue) (drop l.number added)) ≡ first (breaks (specs_of l.hosts.names) l.guards l.catalogue added)
