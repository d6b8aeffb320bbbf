use Rattle.std.proofs.Common.{◌≡◌, ◌++◌, length, map}
use Rattle.hera_meaning.specs.Values.{scalar_in}
use Rattle.hera_prims.proofs.rows.scalars.Given as goal

abbrev pub invariant-loop-v : goal.invariant-loop-v
invariant-loop-v l = l.fields.items ++ map scalar_in l.args ≡ map scalar_in l.initial.args

abbrev pub decreases-loop-v : goal.decreases-loop-v
decreases-loop-v l = length l.args
