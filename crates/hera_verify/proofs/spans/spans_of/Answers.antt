use Rattle.std.proofs.Common.{sym}
use Rattle.hera_verify.proofs.Spanning.{more_noted}
use Rattle.hera_verify.proofs.spans.spans_of.Goals as goal

pub loop-a-preserved : goal.loop-a-preserved
loop-a-preserved c = rw (c.note.ensures, c.named.ensures) (more_noted c.args.instrs.now c.loop-a.a c.in-Some.instr.now c.loop-a.spans.items (sym c.in-Some.ensures) c.loop-a.invariant)
