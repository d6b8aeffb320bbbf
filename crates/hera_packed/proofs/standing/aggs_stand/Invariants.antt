use Rattle.std.proofs.Common.{take}
use Rattle.std.specs.List.{AllByRecursion}
use Rattle.hera_code_file.specs.Fitting.{AggFits}
use Rattle.hera_packed.proofs.standing.aggs_stand.Given as goal

abbrev pub invariant-loop-agg : goal.invariant-loop-agg
invariant-loop-agg l = AllByRecursion AggFits (take l.agg-index l.aggs)
