use Rattle.std.proofs.Common.{refl}
use Rattle.hera_meaning.specs.Forms.{of_delta}
use Rattle.hera_effects.proofs.Stepping.{enters_not, enters}
use Rattle.hera_effects.proofs.walks.enter.Goals as goal

pub returns-in_default : goal.returns-in_default
returns-in_default c code rels hosts notes k a at p next is = enters_not c.args.stacks.now a p (c.in_default.ensures p.operands of_delta is.operands refl)

pub returns : goal.returns
returns c code rels hosts notes k a at p next is =
    enters c.args.stacks.now c.on.result c.args.spot c.in-Some.operands c.in-Some-checked_add.layers c.args.next a p (c.in-Some.ensures p.operands of_delta is.operands refl) c.in-Some-checked_add.ensures.1
    c.on.ensures.first c.on.ensures.second c.on.ensures.point next is
