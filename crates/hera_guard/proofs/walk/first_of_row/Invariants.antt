use Rattle.std.proofs.Common.{◌≡◌, drop}
use Rattle.hera_host.specs.Tables.{specs_of}
use Rattle.hera_guard.specs.Guards.{row_breaks, first}
use Rattle.hera_guard.proofs.walk.first_of_row.Given as goal

-- the first of the guards that are left is the first of all
abbrev pub invariant-loop-i : goal.invariant-loop-i
invariant-loop-i g l = first (row_breaks (specs_of l.hosts.names) l.schema l.rel.0 l.row l.i (drop l.i l.guards)) ≡ first (row_breaks (specs_of l.hosts.names) l.schema l.rel.0 l.row 0 l.guards)
