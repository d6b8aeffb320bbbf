use Rattle.std.proofs.Common.{[]}
use Rattle.std.proofs.lemmas.Result.{err_from_is_err_and}
use Rattle.hera_code_file.specs.Reading.{many, instr_at}
use Rattle.hera_code_file.proofs.Loops.{goes_on, stops_at, is_done}
use Rattle.hera_code_file.proofs.instrs.some_instrs.Goals as goal

pub returns-in_err-instr : goal.returns-in_err-instr
returns-in_err-instr c =
    let p = err_from_is_err_and c.from_residual.result c.from_residual.ensures.1 in
    rw (p.1, p.2) (stops_at c.in_err-instr.field-0.0 (λ before. instr_at) c.args.count c.loop.counter c.loop.instrs c.loop.rest.now (many (λ before. instr_at) c.args.count [] c.args.bytes.now) c.loop-test.true c.in_err-instr.ensures c.loop.invariant)

pub loop-preserved : goal.loop-preserved
loop-preserved c = rw c.in_ok-push.ensures (goes_on (λ before. instr_at) c.args.count c.loop.counter c.loop.instrs c.loop.rest.now c.in_ok-instr.instr c.in_ok-instr.behind.now (many (λ before. instr_at) c.args.count [] c.args.bytes.now) c.loop-test.true c.in_ok-instr.ensures c.loop.invariant)

pub returns : goal.returns
returns c = is_done (λ before. instr_at) c.args.count c.loop.counter c.loop.instrs c.loop.rest.now (many (λ before. instr_at) c.args.count [] c.args.bytes.now) c.loop-test.false c.loop.invariant
