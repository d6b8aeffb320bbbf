use Rattle.hera_run.proofs.Levelled.{levelled_start}
use Rattle.hera_run.proofs.keeper.InFolder.over.Goals as goal

pub returns-clause-levelled : goal.returns-clause-levelled
returns-clause-levelled c =
    let s = c.args.store in
    levelled_start c.in_ok-levels.levels c.commits.result.now s c.commits.ensures.commits c.commits.ensures.proper (c.in_ok-levels.ensures.does s.base.state) (c.in_ok-levels.ensures.known s.base.catalogue)
