use Rattle.hera_run.proofs.Levelled.{delta_known}
use Rattle.hera_run.proofs.keeper.InMemoryKeeper.keep.Goals as goal

pub returns-clause-ready : goal.returns-clause-ready
returns-clause-ready g c =
    let rels = c.args.self.now.base.catalogue in
    c.in_ok-push.ensures.known rels c.requires.ready (delta_known rels c.args.delta c.requires.proper.1)
