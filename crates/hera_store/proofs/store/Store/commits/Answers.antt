use Rattle.std.proofs.Common.{All, subst}
use Rattle.hera_meaning.specs.Commits.{IsCommitOf}
use Rattle.hera_store.specs.Standing.{Standing}
use Rattle.hera_store.proofs.store.Store.commits.Goals as goal

pub returns-clause-proper : goal.returns-clause-proper
returns-clause-proper c = subst (λ (store : Standing). All (IsCommitOf store.base.catalogue) store.commits) c.self.view_is c.self.invariant.proper
