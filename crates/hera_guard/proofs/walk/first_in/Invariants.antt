use Rattle.std.proofs.Common.{◌≡◌, length}
use Rattle.std.specs.List.{filter}
use Rattle.std.specs.Option.{option_copied}
use Rattle.hera_sets.specs.Rows.{is_past}
use Rattle.hera_host.specs.Tables.{specs_of}
use Rattle.hera_guard.specs.Guards.{rows_breaks, first}
use Rattle.hera_guard.proofs.walk.first_in.Given as goal

-- the first break of the rows past the last one is that of all
abbrev pub invariant-loop-row : goal.invariant-loop-row
invariant-loop-row g l =
    let breaks = rows_breaks (specs_of l.hosts.names) l.guards l.schema l.rel.0 in first (breaks (filter (is_past (option_copied l.last)) (g.S.Sorted.rows l.rows))) ≡ first (breaks (g.S.Sorted.rows l.rows))

abbrev pub decreases-loop-row : goal.decreases-loop-row
decreases-loop-row g l = length (filter (is_past (option_copied l.last)) (g.S.Sorted.rows l.rows))
