use Rattle.std.proofs.Common.{arith}
use Rattle.hera_csv.specs.Listed.{rows_at}
use Rattle.hera_csv.proofs.Spans.{length-rows_at, taken_more, taken_all}
use Rattle.hera_csv.proofs.row_list.in_order.Goals as goal

pub loop-i-preserved : goal.loop-i-preserved
loop-i-preserved c =
    taken_more (rows_at c.args.bytes.now c.args.spans.now) c.loop-i.i c.row_at.result.now c.loop-i.set c.insert.new.self c.row_at.ensures c.loop-i.invariant c.in_ok-insert.ensures.ok

pub returns : goal.returns
returns c =
    taken_all (rows_at c.args.bytes.now c.args.spans.now) c.loop-i.i c.loop-i.set (omega (arith, c.loop-i-test.false, length-rows_at c.args.bytes.now c.args.spans.now)) c.loop-i.invariant
