use Rattle.std.proofs.Common.{◌≡◌, drop}
use Rattle.hera_rules.specs.Rules.{repeat_in, agg_words}
use Rattle.hera_types_algebra.proofs.groups.distinct_aggs.Given as goal

abbrev pub invariant-loop-agg : goal.invariant-loop-agg
invariant-loop-agg l = repeat_in l.initial.names (agg_words l.aggs) ≡ repeat_in l.names (agg_words (drop l.agg-index l.aggs))
