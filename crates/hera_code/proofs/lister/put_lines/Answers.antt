use Rattle.hera_code.proofs.Lines.{lines_on}
use Rattle.hera_code.proofs.lister.put_lines.Goals as goal

pub loop-at-preserved : goal.loop-at-preserved
loop-at-preserved c = lines_on c.loop-at.out.items c.put_line.new.out.items _ c.args.code.now.instrs c.loop-at.at c.args.end c.at.result.now c.loop-at-test.true c.at.ensures c.in_ok-put_line.ensures c.loop-at.invariant
