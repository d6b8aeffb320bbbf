use Rattle.std.proofs.Common.{◌≡◌, ◌∙◌, ◌∷◌, drop, map, sym, ap, arith}
use Rattle.hera_values.specs.Little.{plain_of}
use Rattle.hera_frames.specs.Items.{held}
use Rattle.hera_frames.proofs.Moved.{next_held, moved_more, moved_rest}
use Rattle.hera_frames.proofs.operands.Operands.move_newest.Goals as goal

pub pop_held-requires : goal.pop_held-requires
pop_held-requires c =
    next_held c.args.n c.loop.counter c.args.self.now.items c.loop.self.items (omega (arith, c.loop-test.true)) c.requires.there c.requires.held c.loop.invariant.rest

pub loop-preserved : goal.loop-preserved
loop-preserved c =
    let old = c.args.self.now.items in
    let left = c.pop_held.new.self.items in
    let newest : drop c.loop.counter old ≡ held (plain_of c.pop_held.result) ∷ left = sym c.loop.invariant.rest ∙ c.pop_held.ensures in
    record {
      moved =
          ap (map plain_of) c.push_reserved.ensures.items
          ∙ moved_more old left c.args.to.now.items c.loop.to.items c.loop.counter c.pop_held.result newest c.loop.invariant.moved;
      rest = moved_rest old left c.loop.counter (held (plain_of c.pop_held.result)) newest;
      len = omega (arith, c.push_reserved.ensures.len, c.loop.invariant.len);
      capacity = c.push_reserved.ensures.capacity ∙ c.loop.invariant.capacity;
    }
