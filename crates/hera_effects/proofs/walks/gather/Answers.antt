use Rattle.std.proofs.Common.{sym}
use Rattle.hera_effects.proofs.Stepping.{gathers_not, gathers_so}
use Rattle.hera_effects.proofs.walks.gather.Goals as goal

pub returns-in_default-take : goal.returns-in_default-take
returns-in_default-take c code rels hosts notes k a p next is = gathers_not c.args.stacks.now c.args.spot c.in-Some.walk a p (sym c.in-Some.ensures) (λ ss f h e. c.in_default-take.ensures ss f h e) is

pub returns : goal.returns
returns c code rels hosts notes k a p next is =
    gathers_so c.args.stacks.now c.on.result c.args.spot c.in-Some.walk c.in-Some-take.operands c.args.next a p (sym c.in-Some.ensures) (λ ss f h e. c.in-Some-take.ensures ss f h e)
    c.on.ensures.first c.on.ensures.second c.on.ensures.point next is
