use Rattle.std.proofs.Common.{◌≡◌, ◌++◌, List}
use Rattle.std.specs.Option.{option_copied}
use Rattle.hera_sets.specs.Rows.{Row}
use Rattle.when_overlay.specs.Layered.{IsTip, path}
use Rattle.when_overlay.specs.Seeking.{named, first_of, passes}
use Rattle.when_overlay.proofs.Layering.{height}
use Rattle.when_overlay.proofs.seeks.layered_above.Given as goal

-- the first of the rows that the layers so far name, which stand behind those of the layers below
abbrev pub invariant-loop-at : goal.invariant-loop-at
invariant-loop-at l =
    (rows : List Row) × (option_copied l.first ≡ first_of (passes l.sought) rows) × (named l.rel.0 l.sign (path l.layers.layers l.at) ++ rows ≡ named l.rel.0 l.sign (path l.layers.layers l.fn.tip)) × IsTip l.layers.layers l.at

abbrev pub decreases-loop-at : goal.decreases-loop-at
decreases-loop-at l = height l.at
