use Rattle.std.proofs.Common.{◌-◌, arith}
use Rattle.hera_verify.proofs.Spanning.{at_index, spans_over}
use Rattle.hera_verify.proofs.spans.span_over.Goals as goal

pub returns : goal.returns
returns c instrs count spans over =
    rw c.joined.ensures (spans_over instrs count c.args.width c.args.from c.args.end c.args.spans.now.items c.index.result.now c.index-2.result.now c.requires.some c.requires.long c.requires.within over
    (at_index c.args.spans.now.items c.args.from c.index.result.now (omega (arith, c.requires.some, c.requires.long, c.requires.within)) c.index.ensures)
    (at_index c.args.spans.now.items (c.args.end - c.args.width) c.index-2.result.now (omega (arith, c.requires.some, c.requires.long, c.requires.within)) c.index-2.ensures)
    spans)
