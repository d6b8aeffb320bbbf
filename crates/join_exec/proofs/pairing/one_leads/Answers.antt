use Rattle.std.proofs.Common.{not, ap, ◌∙◌}
use Rattle.join_exec.proofs.PairLemmas.{leading_short, leading_stopped}
use Rattle.join_exec.proofs.pairing.one_leads.Goals as goal

pub returns-then-places-le1 : goal.returns-then-places-le1
returns-then-places-le1 c = λ row _. leading_short c.args.left.now c.args.right.now c.args.places.now row c.requires.places c.if-places-le1.true

pub returns : goal.returns
returns c = λ row none.
    leading_stopped c.args.left.now c.args.right.now c.args.places.now row c.place_at.result c.requires.places c.place_at.ensures (c.is_none.ensures ∙ ap not none)
