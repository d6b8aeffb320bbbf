use Rattle.std.proofs.Common.{ap}
use Rattle.hera_meaning.specs.declared.trees.Core.{Core}
use Rattle.hera_meaning.specs.declared.trees.Op.TheVariants.{Merge}
use Rattle.hera_types_parts.proofs.Snocs.{merges_step}
use Rattle.hera_types_checks.proofs.tuples.merges_of.Goals as goal

pub loop-value-preserved : goal.loop-value-preserved
loop-value-preserved c =
    merges_step c.args.at c.loop-value.all.items c.loop-value.yielded c.in-Some.value (ap (λ (e : Core). record { op = Merge; arg = e; at = c.args.at }) c.into_core.ensures) c.in_ok-put.ensures c.loop-value.invariant
