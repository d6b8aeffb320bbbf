use Rattle.std.proofs.Common.{◌+◌, subst}
use Rattle.hera_typed.specs.Notes.{notes_of}
use Rattle.std.specs.Option.{option_map}
use Rattle.hera_typed.specs.Points.{with, when, first}
use Rattle.hera_typed.specs.Effects.{Slot_note, slot, walks_into, goes_or}
use Rattle.hera_effects.specs.Ways.{Both, AreWays}
use Rattle.hera_effects.proofs.Effecting.{next_is}
use Rattle.hera_effects.proofs.effects.next_of.Goals as goal

pub returns : goal.returns
returns g c a p next is =
    let o = slot (notes_of c.args.around.now.notes.now) c.args.k c.args.i in
    let f = option_map (λ (n : Slot_note). n.form) o in
    next_is c.args.stacks.now c.next_tuple.result o p (a + 1) c.args.to
    (subst (λ n. Both (AreWays c.args.stacks.now) c.next_tuple.result (first p.walks (λ w ws. with f (λ g. when (walks_into w.over g) (goes_or n c.args.to p))))) next (c.next_tuple.ensures p f is c.in_ok-form.ensures))
