use Rattle.std.proofs.Common.{◌<◌, length, arith}
use Rattle.hera_typed.specs.Notes.{notes_of}
use Rattle.hera_verify.proofs.Slot_looks.{narrow_on, narrow_ends}
use Rattle.hera_verify.proofs.slots.look.Goals as goal

pub loop-sources-preserved : goal.loop-sources-preserved
loop-sources-preserved c =
    let code = c.args.code.now in
    let sources = c.loop-sources.invariant.sources in
    let some = sources.some in
    record {
      sources = record { spans = c.widen.ensures code.instrs (length code.instrs) sources.spans; fars = sources.fars; some = omega (arith, some) };
      found = rw c.least-found.ensures (narrow_on code (notes_of c.args.notes.now) c.loop-sources.sources.width c.loop-sources.found c.look_at_width.result some c.loop-sources.invariant.found c.look_at_width.ensures);
    }

pub returns : goal.returns
returns c rels hosts =
    let code = c.args.code.now in
    let long : length code.instrs < c.loop-sources.sources.width = omega (arith, c.loop-sources-test.false, c.len.ensures) in
    narrow_ends code rels hosts (notes_of c.args.notes.now) c.loop-sources.sources.width c.loop-sources.found (omega (arith, long, c.requires.some)) long c.loop-sources.invariant.found
