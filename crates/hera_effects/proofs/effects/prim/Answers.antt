use Rattle.std.proofs.Common.{subst, [], Some}
use Rattle.hera_typed.specs.Points.{cut}
use Rattle.hera_effects.specs.Ways.{Both}
use Rattle.hera_effects.specs.Operations.{IsCut}
use Rattle.hera_effects.proofs.effects.prim.Goals as goal

pub returns-clause-effect : goal.returns-clause-effect
returns-clause-effect g c k a at p next is =
    let st = c.args.stacks.now in
    c.prim_on.ensures.effect k a at p next is
    (subst (λ n. Both (IsCut st) (Some c.in-Some.taken) (cut n [] p.operands)) c.arity.ensures (subst (λ o. Both (IsCut st) o (cut c.arity.result [] p.operands)) c.in-Some.is (c.in_ok-taken.ensures p.operands is.operands)))
