use Rattle.std.proofs.Common.{◌≡◌, ◌++◌, length}
use Rattle.std.specs.List.{filter, find}
use Rattle.hera_sets.specs.Rows.{holds}
use Rattle.when_overlay.specs.Changed.{rows_after}
use Rattle.when_overlay.specs.Layered.{path}
use Rattle.when_overlay.specs.Seeking.{met, passes}
use Rattle.when_overlay.proofs.seeks.first_met.Given as goal

-- what is sought behind the last row is what is sought
abbrev pub invariant-loop-row : goal.invariant-loop-row
invariant-loop-row l =
    let rows = l.pages in
    let ds = l.commits ++ path l.layers.layers l.tip in
    find (holds (rows_after l.rel.0 rows ds)) (filter (passes l.last) (met l.rel.0 rows ds)) ≡ find (holds (rows_after l.rel.0 rows ds)) (filter (passes l.sought) (met l.rel.0 rows ds))

abbrev pub decreases-loop-row : goal.decreases-loop-row
decreases-loop-row l = length (filter (passes l.last) (met l.rel.0 l.pages (l.commits ++ path l.layers.layers l.tip)))
