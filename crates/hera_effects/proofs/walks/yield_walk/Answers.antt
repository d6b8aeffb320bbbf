use Rattle.std.proofs.Common.{sym, ap, ◌∙◌, Some}
use Rattle.hera_stacks.specs.declared.forms.FlatForm.TheVariants as flat
use Rattle.hera_stacks.specs.declared.forms.FlatSeen.TheVariants as flat_seens
use Rattle.hera_stacks.proofs.Flattened.{kinds_are}
use Rattle.hera_effects.proofs.Stepping.{yields}
use Rattle.hera_effects.proofs.walks.yield_walk.Goals as goal

pub returns-clause-effect : goal.returns-clause-effect
returns-clause-effect c code rels hosts notes k a p next is =
    yields c.args.stacks.now c.with.new.self c.on.result c.args.spot c.in-Some.walk c.in_ok-operands.operands c.args.next a p c.in_ok-operands.ensures.grows (sym c.in-Some.ensures)
    (c.in_ok-operands.ensures.number ∙ ap (λ x. Some (record { seen = flat_seens.Known (flat.Table c.in-Some.walk.gathers); gathers = x; below = c.args.spot.operands })) (kinds_are c.no_kinds.result 0 c.no_kinds.ensures))
    c.on.ensures.first c.on.ensures.second c.on.ensures.point next is
