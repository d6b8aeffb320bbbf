-- What deltas change of the rows.
use Rattle.std.specs.Prelude.{Bool, not, ◌&&◌, List, filter}
use Rattle.hera_sets.specs.Rows.{Row}
use Rattle.hera_sets.specs.Sets.{is_apart}
use Rattle.hera_meaning.specs.declared.scalars.Sign.{Sign}
use Rattle.hera_meaning.specs.declared.scalars.Sign.TheVariants.{Plus, Minus}

-- a row was put in, or taken out, if it was there before or not, and is there after or not
abbrev pub is_change : Sign → Bool → Bool → Bool
is_change Plus before after = not before && after
is_change Minus before after = before && not after

-- the rows put in, which are those after that were not there before, or those taken out
abbrev pub changes : Sign → List Row → List Row → List Row
changes Plus before after = filter (is_apart before) after
changes Minus before after = filter (is_apart after) before
