-- Groups: what is asked of their aggregates, the rows behind their keys, and why they are refused.
use Rattle.std.specs.Prelude.{◌≡◌, ◌<◌, ℕ, Bool, false, List, ◌++◌}
use Rattle.std.specs.List.{flat_map, list_all}
use Rattle.hera_sets.specs.Rows.{Row}
use Rattle.hera_meaning.specs.declared.schemas.Attr.{Attr}
use Rattle.hera_meaning.specs.declared.schemas.Agg.{Agg}
use Rattle.hera_meaning.specs.declared.schemas.Agg.TheVariants.{Count, Sum, Min, Max}
use Rattle.hera_meaning.specs.Rows.{field_bytes}
use Rattle.hera_meaning.specs.Relations.{at_places}
use Rattle.hera_meaning.specs.Aggregates.{agg_of, is_agg_in_range}
use Rattle.hera_aggregate.specs.declared.ends.AggEnd.{AggEnd}
use Rattle.hera_aggregate.specs.declared.ends.AggEnd.TheVariants.{Overflow, EmptyMin, Memory}

-- the place of an aggregate is below n
abbrev pub IsAggWithin : ℕ → Agg → Type 0
IsAggWithin n Count = Unit {0}
IsAggWithin n (Sum i) = i < n
IsAggWithin n (Min i) = i < n
IsAggWithin n (Max i) = i < n

-- the row behind its key
abbrev pub keyed_row : List Attr → List ℕ → Row → Row
keyed_row schema by row = at_places schema by row ++ row

-- the aggregates of some rows, as bytes
abbrev pub aggs_bytes : List Attr → List Row → List Agg → Row
aggs_bytes schema rows aggs = flat_map (λ g. field_bytes (agg_of schema rows g)) aggs

-- the sums of some rows are in range
abbrev pub are_aggs_in_range : List Attr → List Row → List Agg → Bool
are_aggs_in_range schema rows aggs = list_all (is_agg_in_range schema rows) aggs

-- a group is refused as Overflow where it does not fit, and may want memory
abbrev pub IsGroupEnd : Bool → AggEnd → Type 0
IsGroupEnd fits Overflow = fits ≡ false
IsGroupEnd fits EmptyMin = ⊥
IsGroupEnd fits Memory = Unit {0}
