use Rattle.std.proofs.Common.{arith}
use Rattle.hera_typed.specs.Notes.{notes_of}
use Rattle.hera_verify.proofs.Slot_looks.{bodies_on, bodies_end}
use Rattle.hera_verify.proofs.slots.look_at_width.Goals.{then-k-len, else-k-len}
use Rattle.hera_verify.proofs.slots.look_at_width.Goals as goal

pub loop-k-preserved : goal.loop-k-preserved
loop-k-preserved c = record {
  reach = λ lt. elim c.if-k-len.branch [
    | then-k-len w ↦ rw w.reach-is w.next-reach.ensures
    | else-k-len w ↦ absurd (omega (arith, w.if-k-len.false, c.len.ensures, lt))
  ];
  found = rw c.least-found.ensures (bodies_on c.args.code.now (notes_of c.args.notes.now) c.args.sources.now.width c.loop-k.k c.loop-k.found c.look_at_body.result c.loop-k.invariant.found c.look_at_body.ensures);
}

pub returns : goal.returns
returns c = bodies_end c.args.code.now c.args.notes.now.bodies.items c.args.sources.now.width c.loop-k.k c.loop-k.found (omega (arith, c.loop-k-test.false, c.len-k-end.ensures)) c.requires.noted c.loop-k.invariant.found
