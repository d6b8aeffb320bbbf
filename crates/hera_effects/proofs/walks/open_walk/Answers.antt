use Rattle.std.proofs.Common.{sym, ◌∙◌, refl}
use Rattle.hera_effects.proofs.Stepping.{opens}
use Rattle.hera_effects.proofs.walks.open_walk.Goals as goal

pub returns-clause-opened : goal.returns-clause-opened
returns-clause-opened c p ks is kinds =
    opens c.args.stacks.now c.with.new.self c.on.result c.args.spot c.in-Some.node (record { seen = c.in-Some.node.seen; gathers = c.in-Some-gathers.kinds; below = c.args.spot.walks }) c.in_ok-walks.walks c.args.next p ks
    c.in_ok-walks.ensures.grows (sym c.in-Some.ensures) (λ s e. c.if-not-is_relation.ensures s e) (sym c.in-Some-gathers.is ∙ kinds) c.in_ok-walks.ensures.number refl refl
    c.on.ensures.first c.on.ensures.second c.on.ensures.point is
