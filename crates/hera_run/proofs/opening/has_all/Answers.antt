use Rattle.hera_run.proofs.Readied.{missing_lacks}
use Rattle.hera_run.proofs.opening.has_all.Goals as goal

pub returns-in-Some-clause-lacks : goal.returns-in-Some-clause-lacks
returns-in-Some-clause-lacks c = λ no has. missing_lacks c.args.catalogue.now c.args.own.now _ c.in-Some.ensures has
