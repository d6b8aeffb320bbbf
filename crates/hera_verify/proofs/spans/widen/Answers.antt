use Rattle.std.proofs.Common.{◌<◌, ◌+◌, length, ap, ◌∙◌, arith}
use Rattle.hera_verify.proofs.Spanning.{set_long, at_index, widen_on, widen_ends}
use Rattle.hera_verify.proofs.spans.widen.Goals as goal

pub loop-b-preserved : goal.loop-b-preserved
loop-b-preserved c =
    let width = c.args.width in
    let b = c.loop-b.b in
    let items = c.loop-b.spans.items in
    let long = c.loop-b.invariant.long in
    let within : b + width < length items = omega (arith, c.loop-b-test.true, c.saturating_sub-b-end.ensures, c.len.ensures, long) in
    record {
      long = ap length c.put.ensures ∙ set_long items b c.joined-span.result ∙ long;
      widened = λ instrs count h. rw (c.put.ensures, c.joined-span.ensures) (widen_on instrs count width b items c.index.result.now c.index-in-loop-b.result.now c.requires
          (at_index items b c.index.result.now (omega (arith, within)) c.index.ensures) (at_index items (b + width) c.index-in-loop-b.result.now within c.index-in-loop-b.ensures) (c.loop-b.invariant.widened instrs count h));
    }

pub returns : goal.returns
returns c instrs count h =
    let done = c.loop-b.invariant.widened instrs count h in
    let long = c.loop-b.invariant.long in
    let all = done.long in
    widen_ends instrs count c.args.width c.loop-b.b c.loop-b.spans.items c.requires (omega (arith, c.loop-b-test.false, c.saturating_sub-b-end.ensures, c.len.ensures, long, all)) done
