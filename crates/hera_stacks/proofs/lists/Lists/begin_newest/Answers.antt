use Rattle.std.proofs.Common.{sym, subst}
use Rattle.hera_stacks.specs.Kept.{ArePlaced}
use Rattle.hera_stacks.proofs.Keeping.{placed_begun}
use Rattle.hera_stacks.proofs.lists.Lists.begin_newest.Goals as goal

pub returns-in_ok-push-clause-placed : goal.returns-in_ok-push-clause-placed
returns-in_ok-push-clause-placed c =
    let own = c.args.self.now in
    subst (λ xs. ArePlaced own.cells.items xs own.others) (sym c.in_ok-push.ensures.items) (placed_begun own.cells.items own.tops.items own.others c.requires.placed)
