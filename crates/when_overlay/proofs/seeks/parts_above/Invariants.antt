use Rattle.std.proofs.Common.{◌≡◌, take}
use Rattle.std.specs.Option.{option_copied}
use Rattle.when_overlay.specs.Seeking.{named, first_of, passes}
use Rattle.when_overlay.proofs.seeks.parts_above.Given as goal

-- the first row that the deltas so far name
abbrev pub invariant-loop-delta : goal.invariant-loop-delta
invariant-loop-delta l = option_copied l.first ≡ first_of (passes l.sought) (named l.rel.0 l.sign (take l.delta-index l.deltas))
