use Rattle.std.proofs.Common.{◌≡◌, arith, sym, ap, subst, ◌∙◌, suc, length}
use Rattle.hera_stacks.specs.Kept.{cell_at, ArePlaced}
use Rattle.hera_stacks.proofs.Keeping.{placed_still, placed_put, placed_other, newest_at}
use Rattle.hera_stacks.proofs.lists.Lists.add_other.Goals as goal

pub returns-in_err-insert-clause-placed : goal.returns-in_err-insert-clause-placed
returns-in_err-insert-clause-placed c =
    let own = c.args.self.now in
    placed_still own.cells.items own.tops.items own.others c.insert.new.self c.in_err-insert.ensures.err c.requires.placed

pub returns-in_err-push-clause-placed : goal.returns-in_err-push-clause-placed
returns-in_err-push-clause-placed c =
    let own = c.args.self.now in
    let top = c.requires.top in
    subst (λ xs. ArePlaced xs own.tops.items c.insert.new.self) (sym c.in_err-push.ensures.items)
    (placed_put own.cells.items own.tops.items own.others c.insert.new.self c.args.cell top.1 top.0 c.in_ok-list.list top.2 top.3 top.4 c.requires.absent c.in_ok-insert.ensures.updates c.requires.placed)

pub returns-clause-placed : goal.returns-clause-placed
returns-clause-placed c =
    let own = c.args.self.now in
    let top = c.requires.top in
    let list : c.in_ok-list.list ≡ suc (length own.cells.items) = omega (arith, c.in_ok-list.ensures, c.len.ensures, own.cells.ok.0) in
    subst (λ xs. ArePlaced xs own.tops.items c.insert.new.self) (sym c.in_ok-push.ensures.items)
    (placed_other own.cells.items own.tops.items own.others c.insert.new.self c.args.cell top.1 top.0 c.in_ok-list.list top.2 top.3 top.4 c.requires.absent c.in_ok-insert.ensures.updates list c.requires.placed)

pub returns-clause-number : goal.returns-clause-number
returns-clause-number c =
    let cells = c.args.self.now.cells.items in
    let list : c.in_ok-list.list ≡ suc (length cells) = omega (arith, c.in_ok-list.ensures, c.len.ensures, c.args.self.now.cells.ok.0) in
    ap (λ xs. cell_at xs c.in_ok-list.list) c.in_ok-push.ensures.items ∙ newest_at cells c.args.cell c.in_ok-list.list list
