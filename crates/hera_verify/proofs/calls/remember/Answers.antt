use Rattle.std.proofs.Common.{subst}
use Rattle.hera_typed.specs.Effects.{effect}
use Rattle.hera_effects.specs.Ways.{Both, AreWays}
use Rattle.hera_verify.proofs.Calling.{leaves_so, left_more}
use Rattle.hera_verify.proofs.calls.remember.Goals as goal

pub returns : goal.returns
returns c code rels hosts notes nodes is k a at p replaces h own ways =
    left_more code rels hosts notes nodes is c.args.left.now c.insert.new.self c.args.number c.args.operands c.in-Some-point.spot.operands h
    (leaves_so code rels hosts notes nodes is k a c.args.number at c.args.operands p c.in-Some.ways c.in-Some-point.spot replaces own c.in-Some-point.is
    (subst (λ o. Both (AreWays nodes) o (effect code rels hosts notes k a (is c.args.number at) p)) c.in-Some.is ways))
    c.in_ok-insert.ensures.updates
