use Rattle.std.proofs.Common.{◌≡◌, ◌++◌, length, map}
use Rattle.std.specs.List.{filter}
use Rattle.std.specs.Option.{option_copied}
use Rattle.hera_sets.specs.Rows.{is_past}
use Rattle.hera_meaning.specs.Wider.{widened_row}
use Rattle.hera_store.proofs.widening.collect_widened.Given as goal

-- the rows done, and those past the last one widened, are all rows widened
abbrev pub invariant-loop-row : goal.invariant-loop-row
invariant-loop-row g l =
    let rows = g.S.Sorted.rows l.rows in
    l.set ++ map (widened_row l.old l.new) (filter (is_past (option_copied l.last)) rows) ≡ map (widened_row l.old l.new) rows

abbrev pub decreases-loop-row : goal.decreases-loop-row
decreases-loop-row g l = length (filter (is_past (option_copied l.last)) (g.S.Sorted.rows l.rows))
