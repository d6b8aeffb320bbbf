use Rattle.std.proofs.Common.{arith}
use Rattle.hera_typed.specs.Notes.{notes_of}
use Rattle.hera_verify.proofs.Body_looks.{begins, one_more, all_bodies}
use Rattle.hera_verify.proofs.bodies.look.Goals as goal

pub loop-k-init : goal.loop-k-init
loop-k-init c = begins c.args.code.now (notes_of c.args.notes.now)

pub loop-k-preserved : goal.loop-k-preserved
loop-k-preserved c = rw c.least-found.ensures (one_more c.args.code.now (notes_of c.args.notes.now) c.loop-k.k c.loop-k.found c.look_at.result c.loop-k.invariant c.look_at.ensures)

pub returns : goal.returns
returns c = λ rels hosts. all_bodies c.args.code.now (notes_of c.args.notes.now) rels hosts c.loop-k.k c.loop-k.found (omega (arith, c.loop-k.auto.k-end, c.loop-k-test.false)) c.loop-k.invariant
