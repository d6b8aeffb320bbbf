use Rattle.std.proofs.Common.{arith}
use Rattle.hera_bind.proofs.Loops.{bodies_bound}
use Rattle.hera_bind.proofs.statements.bind_bodies.Goals as goal

pub returns : goal.returns
returns c =
    bodies_bound c.args.own.now c.args.catalogue.now c.args.bodies.now.items c.loop-i.bodies.items c.loop-i.invariant.many (λ k d l. c.loop-i.invariant.before k d (omega (arith, l, c.loop-i-test.false, c.len-i-end.ensures, c.args.bodies.now.ok.0, c.loop-i.invariant.many)))
