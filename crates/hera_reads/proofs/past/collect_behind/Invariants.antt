use Rattle.std.proofs.Common.{◌≡◌, ◌++◌, length}
use Rattle.std.specs.List.{filter}
use Rattle.std.specs.Option.{option_copied}
use Rattle.hera_sets.specs.Rows.{is_past}
use Rattle.hera_reads.proofs.past.collect_behind.Given as goal

-- the rows done, and those past the last one, are all rows past the bound
abbrev pub invariant-loop-row : goal.invariant-loop-row
invariant-loop-row l = l.set ++ filter (is_past (option_copied l.last)) l.rows ≡ filter (is_past (option_copied l.bound)) l.rows

abbrev pub decreases-loop-row : goal.decreases-loop-row
decreases-loop-row l = length (filter (is_past (option_copied l.last)) l.rows)
