use Rattle.std.proofs.Common.{subst}
use Rattle.commit_levels.specs.Merging.{AreFalling}
use Rattle.commit_levels.proofs.Mergings.{few_levels}
use Rattle.commit_levels.proofs.levels.Levels.deltas.Goals as goal

pub returns-clause-few : goal.returns-clause-few
returns-clause-few c first e = few_levels c.args.self.now first (subst AreFalling c.self.view_is c.self.invariant.1) e
