use Rattle.std.proofs.Common.{ap, ◌∙◌}
use Rattle.std.specs.List.{list_all}
use Rattle.hera_meaning.specs.Fits.{is_delta_of}
use Rattle.hera_run.proofs.Levelled.{levelled_start}
use Rattle.hera_woven.proofs.keeping.few_commits.Goals as goal

pub returns-clause-proper : goal.returns-clause-proper
returns-clause-proper c =
    let s = c.args.store.now in
    let levelled = levelled_start c.in_ok-levels.levels c.commits.result.now s c.commits.ensures.commits c.commits.ensures.proper (c.in_ok-levels.ensures.does s.base.state) (c.in_ok-levels.ensures.known s.base.catalogue) in
    c.copies.ensures.proper s.base.catalogue (ap (list_all (is_delta_of s.base.catalogue)) c.deltas.ensures.deltas ∙ levelled.of)
