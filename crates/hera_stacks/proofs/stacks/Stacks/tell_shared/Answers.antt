use Rattle.std.proofs.Common.{subst}
use Rattle.hera_stacks.specs.Stacked.{IsShared}
use Rattle.hera_stacks.proofs.Keeping.{kept_shared}
use Rattle.hera_stacks.proofs.stacks.Stacks.tell_shared.Goals as goal

pub returns : goal.returns
returns c = subst IsShared c.self.view_is (kept_shared c.self.inside.entries c.self.inside.lists c.self.invariant)
