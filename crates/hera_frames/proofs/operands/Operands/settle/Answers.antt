use Rattle.std.proofs.Common.{◌-◌, ◌∙◌, map, ap, arith}
use Rattle.std.specs.Vec.{vec_len}
use Rattle.hera_frames.specs.Items.{Shelf, collected}
use Rattle.hera_frames.proofs.Settled.{all_held}
use Rattle.hera_frames.proofs.operands.Operands.settle.Goals as goal

pub returns : goal.returns
returns c =
    let s = c.args.stored.now.state in
    let ls = c.args.changes.now.layers in
    let held = c.in_ok-hold_from.ensures in
    (λ i. record {
      items = all_held s ls c.self.inside.items.items c.hold_from.new.items.items (vec_len c.self.inside.items - 0) (omega (arith, held.len)) held.held held.same i;
      spare = held.capacity i - held.len i;
    })
    ∙ ap (λ (x : Shelf). record { items = map (collected s ls) x.items; spare = x.spare }) c.self.view_is
