use Rattle.std.proofs.Common.{subst}
use Rattle.hera_meaning.specs.Commits.{after_all}
use Rattle.hera_meaning.specs.Deltas.{IsState}
use Rattle.hera_store.specs.Standing.{Standing}
use Rattle.hera_meaning.proofs.CommitLaws.{state_after_all}
use Rattle.hera_store.proofs.store.Store.base.Goals as goal

pub returns-clause-state : goal.returns-clause-state
returns-clause-state c =
    let s = c.self.inside in
    subst (λ (store : Standing). IsState store.base.catalogue (after_all store.base.state store.commits)) c.self.view_is (state_after_all s.base.catalogue s.base.state s.commits.items c.self.invariant.state c.self.invariant.proper)
