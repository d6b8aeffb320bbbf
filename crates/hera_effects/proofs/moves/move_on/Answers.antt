use Rattle.std.proofs.Common.{refl}
use Rattle.hera_effects.proofs.Moving.{moves}
use Rattle.hera_effects.proofs.moves.move_on.Goals as goal

pub returns-clause-moved : goal.returns-clause-moved
returns-clause-moved c p e at is =
    moves c.push_if.new.stacks c.args.stacks.now c.args.spot c.in-Some.rest c.in_ok-operands.operands _ p c.args.plain e c.in_ok-operands.ensures.grows at is
    (c.in-Some.ensures p.operands e.takes at.operands is.takes) (λ ss h. c.in_ok-operands.ensures.pushed ss e.gives h is.gives) refl refl refl
