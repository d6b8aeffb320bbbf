use Rattle.std.proofs.Common.{◌≡◌, arith, sym, ap, subst, ◌∙◌, suc, length}
use Rattle.std.specs.Prelude.{slice_set}
use Rattle.hera_stacks.specs.Kept.{cell_at, ArePlaced}
use Rattle.hera_stacks.proofs.Keeping.{placed_first, newest_at}
use Rattle.hera_stacks.proofs.lists.Lists.add_first.Goals as goal

pub returns-clause-placed : goal.returns-clause-placed
returns-clause-placed c =
    let own = c.args.self.now in
    let list : c.in_ok-list.list ≡ suc (length own.cells.items) = omega (arith, c.in_ok-list.ensures, c.len.ensures, own.cells.ok.0) in
    subst (λ xs. ArePlaced xs (slice_set own.tops.items c.args.cell.below c.in_ok-list.list) own.others) (sym c.in_ok-push.ensures.items)
    (placed_first own.cells.items own.tops.items own.others c.args.cell c.in_ok-list.list list c.requires.bare c.requires.placed)

pub returns-clause-number : goal.returns-clause-number
returns-clause-number c =
    let cells = c.args.self.now.cells.items in
    let list : c.in_ok-list.list ≡ suc (length cells) = omega (arith, c.in_ok-list.ensures, c.len.ensures, c.args.self.now.cells.ok.0) in
    ap (λ xs. cell_at xs c.in_ok-list.list) c.in_ok-push.ensures.items ∙ newest_at cells c.args.cell c.in_ok-list.list list
