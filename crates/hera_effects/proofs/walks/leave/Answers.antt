use Rattle.std.proofs.Common.{arith}
use Rattle.hera_effects.proofs.Declared.{leaves}
use Rattle.hera_effects.proofs.walks.leave.Goals as goal

pub returns : goal.returns
returns c nodes code rels hosts notes k a p next is =
    leaves nodes c.on.result c.args.spot c.args.next a p c.on.ensures.first c.on.ensures.second c.on.ensures.point (λ e. absurd (omega (arith, e, c.if-spot-eq0.false))) next is
