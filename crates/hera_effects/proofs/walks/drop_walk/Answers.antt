use Rattle.std.proofs.Common.{sym}
use Rattle.hera_effects.proofs.Stepping.{drops}
use Rattle.hera_effects.proofs.walks.drop_walk.Goals as goal

pub returns : goal.returns
returns c code rels hosts notes k a p next is =
    drops c.args.stacks.now c.on.result c.args.spot c.in-Some.walk c.args.next a p (sym c.in-Some.ensures) c.on.ensures.first c.on.ensures.second c.on.ensures.point next is
