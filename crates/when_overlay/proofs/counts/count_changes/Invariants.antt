use Rattle.std.proofs.Common.{◌≡◌, ◌+◌, ◌++◌, length}
use Rattle.std.specs.Option.{option_copied}
use Rattle.when_overlay.specs.Changed.{rows_after}
use Rattle.when_overlay.specs.Counting.{changes}
use Rattle.when_overlay.specs.Layered.{path}
use Rattle.when_overlay.proofs.Counting.{changes_past, named_past}
use Rattle.when_overlay.proofs.counts.count_changes.Given as goal

-- the changes counted, and those past the last row, are all changes
abbrev pub invariant-loop-row : goal.invariant-loop-row
invariant-loop-row g l =
    let rows = g.S.Sorted.rows l.base in
    let ds = l.commits ++ path l.layers.layers l.tip in
    l.count + changes_past l.sign l.rel.0 rows ds (option_copied l.last) ≡ length (changes l.sign rows (rows_after l.rel.0 rows ds))

abbrev pub decreases-loop-row : goal.decreases-loop-row
decreases-loop-row g l = named_past l.sign l.rel.0 (l.commits ++ path l.layers.layers l.tip) (option_copied l.last)
