use Rattle.std.proofs.Common.{◌≡◌, drop, map}
use Rattle.hera_meaning.specs.Forms.{agg_kind}
use Rattle.hera_stacks.specs.Flat.{numbered}
use Rattle.hera_stacks.proofs.forms.and_aggs.Given as goal

abbrev pub invariant-loop-agg : goal.invariant-loop-agg
invariant-loop-agg l = numbered l.all.digits (map (agg_kind l.schema) (drop l.agg-index l.aggs)) ≡ numbered l.fn.kinds.digits (map (agg_kind l.schema) l.aggs)
