use Rattle.std.proofs.Common.{◌≡◌, ◌++◌, map, take}
use Rattle.hera_rules.specs.Rules.{agg_attr}
use Rattle.hera_types_algebra.proofs.groups.add_aggs.Given as goal

abbrev pub invariant-loop-agg : goal.invariant-loop-agg
invariant-loop-agg l = l.attrs.items ≡ l.fn.attrs.items ++ map (agg_attr l.schema) (take l.agg-index l.aggs)
