use Rattle.std.proofs.Common.{◌≡◌, ◌++◌, length}
use Rattle.std.specs.List.{filter}
use Rattle.std.specs.Option.{option_copied}
use Rattle.hera_sets.specs.Rows.{is_past}
use Rattle.when_overlay.proofs.indexed.IndexedHyp.collect_met.Given as goal

-- the rows done, and those past the last one, are all rows
abbrev pub invariant-loop-row : goal.invariant-loop-row
invariant-loop-row l = l.set ++ filter (is_past (option_copied l.last)) l.self ≡ l.self

abbrev pub decreases-loop-row : goal.decreases-loop-row
decreases-loop-row l = length (filter (is_past (option_copied l.last)) l.self)
