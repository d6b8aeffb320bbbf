use Rattle.std.proofs.Common.{◌+◌, sym, subst, arith}
use Rattle.hera_verify.specs.Tables.{AreStarts}
use Rattle.hera_verify.proofs.Flowing.{starts_on, starts_end}
use Rattle.hera_verify.proofs.flow.starts.Goals as goal

pub loop-k-preserved : goal.loop-k-preserved
loop-k-preserved c =
    subst (λ xs. AreStarts c.args.count c.args.bodies.now (c.loop-k.k + 1) xs) (sym c.begin.ensures) (starts_on c.args.count c.args.bodies.now c.loop-k.k c.in-Some.body c.loop-k.spots.items (sym c.in-Some.ensures) c.loop-k.invariant)

pub returns : goal.returns
returns c = starts_end c.args.count c.args.bodies.now c.loop-k.k c.loop-k.spots.items (omega (arith, c.loop-k-test.false, c.len-k-end.ensures)) c.loop-k.invariant
