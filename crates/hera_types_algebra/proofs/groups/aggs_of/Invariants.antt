use Rattle.std.proofs.Common.{◌≡◌, take}
use Rattle.hera_rules.specs.Rules.{aggs_in}
use Rattle.hera_types_algebra.proofs.groups.aggs_of.Given as goal

abbrev pub invariant-loop-agg : goal.invariant-loop-agg
invariant-loop-agg l = l.all.items ≡ aggs_in l.schema (take l.agg-index l.aggs)
