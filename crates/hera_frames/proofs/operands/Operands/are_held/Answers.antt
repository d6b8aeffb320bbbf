use Rattle.std.proofs.Common.{◌≡◌, ◌∙◌, Some, sym, ap, arith}
use Rattle.std.specs.Prelude.{slice_get}
use Rattle.std.specs.Option.{option_map}
use Rattle.std.proofs.lemmas.Option.{slice_get_within}
use Rattle.hera_frames.specs.Items.{item_of}
use Rattle.hera_frames.proofs.Settled.{unrelated}
use Rattle.hera_frames.proofs.Moved.{more_held}
use Rattle.hera_frames.proofs.operands.Operands.are_held.Goals as goal

pub loop-i-preserved : goal.loop-i-preserved
loop-i-preserved c =
    let items = c.args.self.now.items in
    let x = item_of c.in-Some.operand.now in
    let found : Some x ≡ slice_get items c.loop-i.i = ap (option_map (λ o. item_of o.now)) (sym c.in-Some.is) ∙ c.newest.ensures in
    let within = slice_get_within items c.loop-i.i x (sym found) in
    record {
      there = omega (arith, within);
      held = more_held items c.loop-i.i x found (unrelated x (sym c.is_named.ensures ∙ c.if-is_named.false)) c.loop-i.invariant.held;
    }
