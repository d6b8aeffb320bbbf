use Rattle.std.proofs.Common.{sym}
use Rattle.hera_verify.proofs.Spanning.{far_on}
use Rattle.hera_verify.proofs.spans.fars_of.Goals as goal

pub loop-a-preserved : goal.loop-a-preserved
loop-a-preserved c = rw (c.in_ok-push.ensures.items, c.farther-far.ensures, c.named.ensures, c.len.ensures) (far_on c.args.instrs.now c.loop-a.a c.in-Some.instr.now c.loop-a.fars.items c.loop-a.far (sym c.in-Some.ensures) c.loop-a.invariant)
