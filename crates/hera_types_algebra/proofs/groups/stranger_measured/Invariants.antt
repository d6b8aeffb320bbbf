use Rattle.std.proofs.Common.{◌≡◌, drop}
use Rattle.hera_rules.specs.Rules.{stranger_in, measured_words}
use Rattle.hera_types_algebra.proofs.groups.stranger_measured.Given as goal

abbrev pub invariant-loop-agg : goal.invariant-loop-agg
invariant-loop-agg l = stranger_in l.schema (measured_words l.aggs) ≡ stranger_in l.schema (measured_words (drop l.agg-index l.aggs))
