use Rattle.std.proofs.Common.{◌≡◌, ◌-◌, ap, take, length, subst, arith}
use Rattle.hera_fits.specs.Newest.{newest}
use Rattle.hera_fits.proofs.Stacks.{newest_length}
use Rattle.std.specs.Prelude.{OnOk}
use Rattle.std.specs.Vec.{vec_len}
use Rattle.hera_frames.specs.Items.{Shelf, item_of, AreHeld}
use Rattle.hera_frames.proofs.Holding.{older_rest}
use Rattle.hera_frames.proofs.operands.Operands.hold_newest.Goals as goal

pub overflow_sub-from : goal.overflow_sub-from
overflow_sub-from c =
    let many = newest_length item_of c.self.inside.items.items in
    omega (arith, c.len.ensures, c.requires, ap (λ (x : Shelf). length x.items) c.self.view_is, many)

pub returns-clause-held : goal.returns-clause-held
returns-clause-held c =
    let many = newest_length item_of c.self.inside.items.items in
    let n : vec_len c.self.inside.items - (c.len.result - c.args.n) ≡ c.args.n = omega (arith, c.len.ensures, c.requires, ap (λ (x : Shelf). length x.items) c.self.view_is, many) in
    subst (λ k. OnOk c.hold_from.result (AreHeld (take k (newest item_of c.hold_from.new.items.items)))) n c.hold_from.ensures.held

pub returns-clause-rest : goal.returns-clause-rest
returns-clause-rest c =
    let many = newest_length item_of c.self.inside.items.items in
    rw (← c.self.view_is)
    (older_rest c.self.inside.items.items c.hold_from.new.items.items (c.len.result - c.args.n) c.args.n
    (omega (arith, c.len.ensures, c.requires, ap (λ (x : Shelf). length x.items) c.self.view_is, many))
    (omega (arith, c.hold_from.ensures.len))
    c.hold_from.ensures.older)
